use Rattle.std.proofs.Common.{◌≡◌, ◌∷◌, ◌++◌, [], length, sym, ap, ◌∙◌, arith}
use Rattle.std.specs.List.{filter, range_with_len}
use Rattle.basket_sets.specs.Itemset.{has}
use Rattle.basket_sets.proofs.theory.Ranges.{range_drops, range_keeps}
use Rattle.basket_sets.proofs.theory.Rising.{has-from_Member}
use Rattle.mine_rows.specs.Bits.{word_count}
use Rattle.mine_rows.proofs.CoverLemmas.{cover_in_range}
use Rattle.mine_rows.proofs.PlaneLemmas.{word_is_there}
use Rattle.mine_rows.proofs.bit_rows.BitRowRow.cover.Goals as goal
use Rattle.mine_rows.proofs.bit_rows.BitRowRow.cover.Goals.{then-has_tid+in_ok-push, else-has_tid}

pub loop-tid-preserved : goal.loop-tid-preserved
loop-tid-preserved c = λ cover are.
    let tid = c.loop-tid.tid in
    let count = length c.args.weights.now in
    let is = c.has_tid.ensures (has cover) (word_count count) are (word_is_there tid count (omega (arith, c.loop-tid-test.true, c.count-tid-end.ensures))) in
    elim c.if-has_tid.branch [
      | then-has_tid+in_ok-push w ↦
          ap (λ v. v.items) w.tids-is ∙ w.in_ok-push.ensures.items ∙ ap (λ l. l ++ tid ∷ []) (c.loop-tid.invariant cover are)
          ∙ sym (range_keeps (has cover) tid (sym is ∙ w.if-has_tid.true))
      | else-has_tid w ↦
          ap (λ v. v.items) w.tids-is ∙ c.loop-tid.invariant cover are ∙ sym (range_drops (has cover) tid (sym is ∙ w.if-has_tid.false))
    ]

pub returns : goal.returns
returns c = λ parent cover is.
    let count = length c.args.weights.now in
    let last : c.loop-tid.tid ≡ count = omega (arith, c.loop-tid-test.false, c.loop-tid.auto.tid-end, c.count-tid-end.ensures) in
    c.as_slice.ensures.value ∙ c.loop-tid.invariant cover is.words ∙ ap (λ n. filter (has cover) (range_with_len 0 n)) last
    ∙ cover_in_range cover count is.covers.rises (λ tid m. is.covers.below tid (has-from_Member cover tid m))
