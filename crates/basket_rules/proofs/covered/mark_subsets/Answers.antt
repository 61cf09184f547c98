use Rattle.std.proofs.Common.{◌≡◌, ◌<◌, ◌⊎◌, ◌+◌, IsTrue, false, length, get_or, sym, ap, ◌∙◌, subst, arith}
use Rattle.std.specs.Prelude.{◌↔◌}
use Rattle.std.proofs.lemmas.List.{length-set}
use Rattle.basket_rules.specs.Covered.{AreMarks, Matters, WasSeen}
use Rattle.basket_rules.specs.Listed.{set_at, count_at}
use Rattle.basket_rules.proofs.CoveredLemmas.{all_items, sees_one_more, subset_missing, subset_marked}
use Rattle.basket_rules.proofs.SearchLemmas.{count_is, none, set_is}
use Rattle.basket_rules.proofs.covered.mark_subsets.Goals as goal
use Rattle.basket_rules.proofs.covered.mark_subsets.Goals.{in-Some, in_default}

pub loop-index-preserved : goal.loop-index-preserved
loop-index-preserved c =
    let list = c.args.covering.sets.now in
    let supersets = c.args.covering.supersets in
    let number = c.args.number in
    let index = c.loop-index.index in
    let old = c.loop-index.marks in
    let long : c.size-index-end.result ≡ length (set_at list number) = c.size-index-end.ensures ∙ ap length (sym (set_is list number none c.requires.listed)) in
    let inside : index < length (set_at list number) = omega (arith, long, c.loop-index-test.true) in
    elim c.match-find_below.branch [
      | in-Some w ↦ let at = w.in-Some.at in
          let count = w.count.ensures ∙ sym (count_is list at none w.in-Some.ensures.bound) in
          let above = c.count-count.ensures ∙ sym (count_is list number none c.requires.listed) in
          let told = subst (λ n. IsTrue w.marked.result ↔ (IsTrue (get_or old at false) ⊎ Matters supersets n (count_at list number))) count
          (subst (λ n. IsTrue w.marked.result ↔ (IsTrue (get_or old at false) ⊎ Matters supersets w.count.result n)) above w.marked.ensures) in
          record {
            long = ap length w.marks-is ∙ length-set old at w.marked.result ∙ c.loop-index.invariant.long;
            marked = λ from before. subst (AreMarks list supersets (WasSeen from number (index + 1))) (sym w.marks-is)
                (subset_marked list supersets (WasSeen from number index) (WasSeen from number (index + 1)) number index (sees_one_more from number index) at old w.marked.result (c.loop-index.invariant.marked from before)
                (record { listed = c.requires.listed; within = inside; is = sym w.in-Some.ensures.found }) w.in-Some.ensures.bound told.0 told.1);
          }
      | in_default w ↦ record {
        long = ap length w.marks-is ∙ c.loop-index.invariant.long;
        marked = λ from before. subst (AreMarks list supersets (WasSeen from number (index + 1))) (sym w.marks-is)
            (subset_missing list supersets (WasSeen from number index) (WasSeen from number (index + 1)) number index (sees_one_more from number index) old (c.loop-index.invariant.marked from before) w.in_default.ensures.missing);
      }
    ]

pub returns-clause-marked : goal.returns-clause-marked
returns-clause-marked c = λ from before.
    let list = c.args.covering.sets.now in
    let number = c.args.number in
    let long : c.size-index-end.result ≡ length (set_at list number) = c.size-index-end.ensures ∙ ap length (sym (set_is list number none c.requires.listed)) in
    all_items list c.args.covering.supersets from number c.loop-index.index c.loop-index.marks (omega (arith, long, c.loop-index-test.false)) (c.loop-index.invariant.marked from before)
