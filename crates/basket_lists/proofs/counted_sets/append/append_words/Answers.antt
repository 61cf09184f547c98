use Rattle.std.proofs.Common.{◌≡◌, ◌+◌, List, [], ◌∷◌, ◌++◌, Result, Ok, Err, cond, get_or, map, take, subst, sym, ap, ◌∙◌}
use Rattle.std.proofs.lemmas.List.{append_assoc, map-append, take_more}
use Rattle.basket_sets.specs.declared.counted.Counted.{Counted}
use Rattle.basket_lists.specs.declared.packed.Packed.{Packed}
use Rattle.std.specs.Prelude.{All, OnOk}
use Rattle.std.specs.Result.{is_ok}
use Rattle.basket_lists.specs.Packed.{IsKept, kept}
use Rattle.basket_lists.proofs.ListLemmas.{sets_kept}
use Rattle.basket_lists.proofs.counted_sets.append.append_words.Goals as goal

at_once : {X E : Type 0} (result : Result X E) (set : Packed → Counted) (words others new : List Packed) → new ≡ cond (is_ok result) (words ++ others) words → OnOk result (map set new ≡ map set words ++ map set others)
at_once (Ok added) set words others new is = ap (map set) is ∙ map-append set words others
at_once (Err error) set words others new is = tt

pub returns-then-is_empty-clause-sets : goal.returns-then-is_empty-clause-sets
returns-then-is_empty-clause-sets c coding all others =
    let list = c.args.others.now in
    let set = kept coding c.args.plain.now in
    let none : c.args.other_plain.now ≡ [] = c.is_empty.ensures.0 c.if-is_empty.true in
    let same : map set list ≡ map (kept coding c.args.other_plain.now) list =
    subst (λ plain. map set list ≡ map (kept coding plain) list) (sym none) (sets_kept coding [] c.args.plain.now list (subst (λ plain. All (IsKept coding plain) list) none others)) in
    subst (λ l. OnOk c.extend_from_slice.result (map set c.extend_from_slice.new.self.items ≡ map set c.args.words.now.items ++ l)) same
    (at_once c.extend_from_slice.result set c.args.words.now.items list c.extend_from_slice.new.self.items c.extend_from_slice.ensures.items)

pub returns-in_err-append_word-clause-kept : goal.returns-in_err-append_word-clause-kept
returns-in_err-append_word-clause-kept c coding all others =
    c.append_word.ensures.kept coding (c.loop-other.invariant.words coding all others) (others c.loop-other.other-index _ c.loop-other-test.true)

pub loop-other-preserved : goal.loop-other-preserved
loop-other-preserved c = record {
  words = λ coding all others. c.append_word.ensures.kept coding (c.loop-other.invariant.words coding all others) (others c.loop-other.other-index _ c.loop-other-test.true);
  sets = λ coding all others.
      let list = c.args.others.now in
      let at = c.loop-other.other-index in
      let set = kept coding c.args.other_plain.now in
      let none : Packed = record { word = 0 } in
      let before = map (kept coding c.args.plain.now) c.args.words.now.items in
      let more : map set (take (at + 1) list) ≡ map set (take at list) ++ set (get_or list at none) ∷ [] =
      ap (map set) (take_more list at none c.loop-other-test.true) ∙ map-append set (take at list) (get_or list at none ∷ []) in
      c.in_ok-append_word.ensures.sets coding (c.loop-other.invariant.words coding all others) (others at _ c.loop-other-test.true)
      ∙ ap (λ l. l ++ set (get_or list at none) ∷ []) (c.loop-other.invariant.sets coding all others)
      ∙ append_assoc before (map set (take at list)) (set (get_or list at none) ∷ []) ∙ ap (λ l. before ++ l) (sym more);
}
