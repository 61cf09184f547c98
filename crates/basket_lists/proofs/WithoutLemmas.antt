-- Sets without one of their items.
use Rattle.std.proofs.Common.{◌≡◌, ◌≢◌, ℕ, zero, suc, ◌+◌, ◌-◌, ◌*◌, ◌^◌, ◌<◌, List, [], ◌∷◌, ◌++◌, length, map, drop, take, get_or, set, sym, ap, ◌∙◌, subst, arith}
use Rattle.std.proofs.lemmas.Grind.{common_steps}
use Rattle.std.proofs.lemmas.List.{get_or-map, length-map}
use Rattle.basket_lists.specs.declared.packed.Packed.{Packed}
use Rattle.basket_lists.specs.Known.{IsWordOf, shorter_number}
use Rattle.basket_lists.specs.Packed.{Coding, HasCode, IsCoding, IsPacked, code_of, kept, number_of, set_of, size_of}
use Rattle.basket_lists.specs.Without.{AreIndexesWithout, IsLongerBy, IsIndexWithout}
use Rattle.basket_lists.proofs.BetweenLemmas.{with_first, with_later}
use Rattle.basket_lists.proofs.ListLemmas.{kept_here}
use Rattle.basket_lists.proofs.LongerLemmas.{shorter_is}
use Rattle.basket_lists.proofs.WordLemmas.{size_is}
use Rattle.basket_order.specs.declared.index_table.TheConstants.{NOWHERE}
use Rattle.basket_sets.specs.declared.counted.Counted.{Counted}
use Rattle.basket_sets.specs.Itemset.{IsRising, with_item}
use Rattle.basket_sets.proofs.theory.Rising.{Member-from_has, first_below, has_at, rest_rises}

-- ---- indexes beside items

pub indexes_more : (sets : List Counted) (items indexes : List ℕ) (count index : ℕ) → AreIndexesWithout sets items count indexes → count < length indexes
    → IsIndexWithout sets items (get_or items count 0) index → AreIndexesWithout sets items (count + 1) (set indexes count index)
indexes_more sets items indexes count index all within one k less inside = grind (arith, common_steps)

-- ---- one item less

-- a rising list is what is left of it without an item, with that item
pub put_back : (items : List ℕ) (index : ℕ) → IsRising items → index < length items → with_item (get_or items index 0) (take index items ++ drop (suc index) items) ≡ items
put_back [] index up below = absurd (omega (arith, below))
put_back (x ∷ items) zero up below = with_first x items (λ item m. first_below x items up item m)
put_back (x ∷ items) (suc index) up below =
    let inside : index < length items = omega (arith, below) in
    let above = first_below x items up (get_or items index 0) (Member-from_has items (get_or items index 0) (has_at items index inside)) in
    with_later (get_or items index 0) x (take index items ++ drop (suc index) items) above ∙ ap (λ l. x ∷ l) (put_back items index (rest_rises x items up) inside)

-- ---- a word with one index less

module _ (coding : Coding) (is : IsCoding coding) (packed : Packed) (set : IsPacked coding packed) (above : ℕ) (less : above < size_of coding (code_of coding packed)) (shorter : Packed)
    (word : IsWordOf coding (size_of coding (code_of coding packed) - 1) (shorter_number coding.item_bits (number_of coding (code_of coding packed)) (above * coding.item_bits)) 0 shorter) where
  abbrev code : ℕ
  code = code_of coding packed

  -- a word with its code has the set
  module _ (plain : List Counted) (found : Packed) (same : code_of coding found ≡ code_of coding shorter) where
    found_here : found.word < 2 ^ 127
    found_here = grind (arith, common_steps, size_is)

    pub found_set : (kept coding plain found).set ≡ set_of coding (code_of coding shorter)
    found_set = ap (λ (c : Counted). c.set) (kept_here coding plain found found_here) ∙ ap (set_of coding) same

  pub found_without : (plain : List Counted) (words : List Packed) (index : ℕ) → (index ≢ NOWHERE → HasCode coding.count_bits words index (code_of coding shorter))
      → IsIndexWithout (map (kept coding plain) words) (set_of coding code) (get_or (set_of coding code) (size_of coding code - 1 - above) 0) index
  found_without plain words index has said =
      let none : Packed = record { word = 0 } in
      let at = has said none in
      let there = get_or-map (kept coding plain) words index none (record { set = []; count = 0 }) at.0 in (
        omega (arith, at.0, length-map words (kept coding plain)),
        subst (λ s. IsLongerBy (get_or (set_of coding code) (size_of coding code - 1 - above) 0) s (set_of coding code))
            (sym (ap (λ (c : Counted). c.set) there ∙ found_set plain (get_or words index none) at.1))
            (shorter_is coding is packed set above less (code_of coding shorter) word.sized word.numbered),
      )
