use Rattle.std.proofs.Common.{◌+◌, ◌<◌, [], ◌∷◌, ◌++◌, Vec, Global, length, map, sym, ap, ◌∙◌, subst, arith, filter}
use Rattle.std.specs.Prelude.{All}
use Rattle.std.proofs.lemmas.List.{get_or-map, length-map, take_all}
use Rattle.basket_lists.specs.Packed.{IsKept, kept}
use Rattle.basket_lists.specs.declared.packed.Packed.{Packed}
use Rattle.basket_lists.proofs.UnmarkedLemmas.{AreUnmarkedBelow, marked_more, none, unmarked_more}
use Rattle.basket_lists.proofs.counted_sets.unmarked.unmarked_words.Goals as goal
use Rattle.basket_lists.proofs.counted_sets.unmarked.unmarked_words.Goals.{then-not-marks-index+in_ok-append_word, else-not-marks-index}

pub loop-index-preserved : goal.loop-index-preserved
loop-index-preserved c =
    let others = c.args.others.now in
    let marks = c.args.marks.now in
    let index = c.loop-index.index in
    let before = c.loop-index.invariant in
    record {
      words = λ coding all. elim c.if-not-marks-index.branch [
        | then-not-marks-index+in_ok-append_word w ↦
            subst (λ (words : Vec Packed Global). All (IsKept coding c.if-not-marks-index.plain) words.items) (sym w.words-is)
            (subst (λ plain. All (IsKept coding plain) w.append_word.new.words.items) (sym w.plain-is)
            (w.append_word.ensures.kept coding (before.words coding all) (all index _ c.loop-index-test.true)))
        | else-not-marks-index w ↦
            subst (λ (words : Vec Packed Global). All (IsKept coding c.if-not-marks-index.plain) words.items) (sym w.words-is)
            (subst (λ plain. All (IsKept coding plain) c.loop-index.words.items) (sym w.plain-is) (before.words coding all))
      ];
      sets = λ coding all.
          let other = kept coding c.args.other_plain.now in
          let list = map other others in
          let inside : index < length list = omega (arith, length-map others other, c.loop-index-test.true) in
          elim c.if-not-marks-index.branch [
            | then-not-marks-index+in_ok-append_word w ↦
                subst (AreUnmarkedBelow marks list (index + 1))
                (ap (λ l. map (kept coding c.loop-index.plain) c.loop-index.words.items ++ l ∷ []) (get_or-map other others index (record { word = 0 }) none c.loop-index-test.true)
                ∙ sym (w.in_ok-append_word.ensures.sets coding (before.words coding all) (all index _ c.loop-index-test.true))
                ∙ (λ i. map (kept coding (sym w.plain-is i)) (sym w.words-is i).items))
                (unmarked_more marks list index (map (kept coding c.loop-index.plain) c.loop-index.words.items) (before.sets coding all) inside w.if-not-marks-index.true)
            | else-not-marks-index w ↦
                subst (AreUnmarkedBelow marks list (index + 1)) (λ i. map (kept coding (sym w.plain-is i)) (sym w.words-is i).items)
                (marked_more marks list index (map (kept coding c.loop-index.plain) c.loop-index.words.items) (before.sets coding all) inside w.if-not-marks-index.false)
          ];
    }

pub returns-clause-sets : goal.returns-clause-sets
returns-clause-sets c coding all test passes =
    let list = map (kept coding c.args.other_plain.now) c.args.others.now in
    c.loop-index.invariant.sets coding all test passes
    ∙ ap (filter test) (take_all c.loop-index.index list (omega (arith, c.loop-index-test.false, length-map c.args.others.now (kept coding c.args.other_plain.now))))
