use Rattle.std.proofs.Common.{◌≡◌, ◌<◌, ◌++◌, ◌∷◌, [], Err, ℕ, List, ap, ◌∙◌, subst, arith, slice_index}
use Rattle.std.proofs.lemmas.Grind.{common_steps}
use Rattle.std.specs.Prelude.{All}
use Rattle.std.specs.List.{sum_by}
use Rattle.std.proofs.lemmas.List.{append-nil}
use Rattle.std.proofs.lemmas.List.Concat.{flat_map-append}
use Rattle.std.proofs.lemmas.List.Sums.{sum_by_push}
use Rattle.mine_limit.specs.declared.fault.MineFault.TheVariants.{TooMany}
use Rattle.mine_round.specs.Record.{with_piece}
use Rattle.mine_round.specs.SeatView.{SeatView}
use Rattle.mine_phases.specs.Classes.{claimed_size}
use Rattle.mine_phases.specs.RoundTally.{still}
use Rattle.mine_pieces.proofs.theory.Claims.{after, after-le, after_push}
use Rattle.mine_phases.proofs.classes.Classes.share.Goals as goal

-- what a seat has claimed that looked at the counter, claimed a piece and told of it
claimed_next : (before looked claimed told : SeatView) (number : ℕ) → still looked ≡ still before → claimed.held ≡ with_piece looked.held number → still told ≡ still claimed
    → told.held.claimed ≡ before.held.claimed ++ number ∷ []
claimed_next before looked claimed told number same piece kept = grind (arith, common_steps)

pub loop-alloc-smaller : goal.loop-alloc-smaller
loop-alloc-smaller g c =
    let before : List ℕ = c.loop-alloc.seat.held.claimed in
    let number = c.in-Some.claimed in
    let rises : All (λ p. p < number) before = subst (λ (s : SeatView). All (λ p. p < number) s.held.claimed) c.are_over.ensures.same c.in-Some.ensures.rises in
    let claimed = claimed_next c.loop-alloc.seat c.are_over.new.seat c.claim_piece.new.seat c.mine-back.result.0 number c.are_over.ensures.same c.in-Some.ensures.piece.1 c.mine-back.ensures.same in
    let low = after-le before number rises in
    let high = ap after claimed ∙ after_push before number rises in
    omega (arith, low, high, c.in-Some.ensures.piece.0, c.args.self.now.of_round)

pub loop-alloc-preserved : goal.loop-alloc-preserved
loop-alloc-preserved g c = grind (arith, common_steps, claimed_next, after, after_push, sum_by_push, append-nil, flat_map-append)

pub returns-in-Err : goal.returns-in-Err
returns-in-Err g c =
    let size = claimed_size (g.M.ClassMiner.coding_of c.args.self.now.miner.now) c.args.self.now.pieces in
    let claimed = claimed_next c.loop-alloc.seat c.are_over.new.seat c.claim_piece.new.seat c.mine-back.result.0 c.in-Some.claimed c.are_over.ensures.same c.in-Some.ensures.piece.1 c.mine-back.ensures.same in
    let seat = ap (λ h. slice_index h.added 0) c.in-Some.ensures.piece.1 in
    let looked = ap (λ l. slice_index l 0) c.are_over.ensures.added in
    let sum = ap (sum_by size) claimed ∙ sum_by_push size c.loop-alloc.seat.held.claimed c.in-Some.claimed in
    record {
      of_ranks = record { own = c.mine-back.ensures.counts.own; values = tt };
      at_most = omega (arith, seat, looked, sum, c.loop-alloc.invariant.told, c.mine-back.ensures.at_most);
      told = tt;
      too_many = λ most e. let fault : c.in-Err.fault ≡ TooMany most = cc in c.mine-back.ensures.too_many most (c.in-Err.is ∙ ap Err fault);
    }
