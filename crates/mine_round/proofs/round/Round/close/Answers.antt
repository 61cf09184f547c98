-- The pieces that were claimed are counted by the piece word, or by the number of pieces where that is less.
use Rattle.std.proofs.Common.{◌≡◌, ◌∙◌, min, ap, subst, sym, arith}
use Rattle.std.specs.Prelude.{IsPermutation}
use Rattle.std.specs.List.{range_with_len}
use Rattle.mine_round.specs.Totals.{claimed_by}
use Rattle.mine_round.proofs.Gathering.{all_claimed, all_ended}
use Rattle.mine_round.proofs.round.Round.close.Goals as goal

pub returns-clause-claimed : goal.returns-clause-claimed
returns-clause-claimed c =
    let terms = c.self.inside.words.shared.key in
    let same : terms.pieces ≡ c.self.inside.terms.pieces = ap (λ t. t.pieces) c.self.invariant.key in
    let is : min c.settle-number.result terms.pieces ≡ c.min.result = omega (arith, c.min.ensures, c.from.ensures) in
    subst (λ n. IsPermutation (claimed_by c.args.seats.items) (range_with_len 0 n)) is (all_claimed terms _ c.args.seats.items _ _ c.join_seats-table_seat.ensures.all c.settle-number.ensures)

pub returns-clause-ended : goal.returns-clause-ended
returns-clause-ended c any =
    let terms = c.self.inside.words.shared.key in
    let same : terms.pieces ≡ c.self.inside.terms.pieces = ap (λ t. t.pieces) c.self.invariant.key in
    let is : min c.settle-number.result terms.pieces ≡ c.min.result = omega (arith, c.min.ensures, c.from.ensures) in
    sym is ∙ all_ended terms _ c.args.seats.items _ _ c.join_seats-table_seat.ensures.all c.settle-number.ensures any ∙ same ∙ ap (λ v. v.pieces) c.self.view_is
