-- The words at the end are those of a state that keeps the rule, and the totals are the counters.
use Rattle.std.proofs.Common.{◌≡◌, ◌+◌, slice_index, ap, ◌∙◌, sym, subst, arith}
use Rattle.std.proofs.lemmas.Grind.{common_steps}
use Rattle.std.specs.Slots.{slots_items}
use mathlib.Core.Option as maybe
use Rattle.mine_round.specs.Totals.{Settles}
use Rattle.mine_round.specs.Words.{record_in}
use Rattle.mine_round.proofs.Places.{index_found}
use Rattle.mine_round.proofs.Gathering.{settles}
use Rattle.mine_round.proofs.words.settle.Goals as goal

pub loop-counter-preserved : goal.loop-counter-preserved
loop-counter-preserved c = grind (arith, common_steps, index_found)

pub returns : goal.returns
returns c =
    let r = record_in c.args.table_seat.me.0 in
    let totals = c.loop-counter.totals in
    let words = slots_items c.close_with-closed.result.words in
    let last = c.close_with-closed.ensures.values.2 in
    let same : last.0.words ≡ words = last.2 in
    subst (λ n. Settles c.args.words.shared.key r n totals) (ap (λ ws. slice_index ws 0) same ∙ index_found words 0 c.word-number.result c.word-number.ensures)
    (settles c.args.words.shared.key last.0.words last.0.views c.args.table_seat.id r totals last.1.0 (last.1.1 ∙ ap (λ m. maybe.some m.0) c.requires.holds) c.requires.whole
    (λ k h. c.loop-counter.invariant k (omega arith) ∙ ap (λ ws. slice_index ws (k + 1)) (sym same)))
