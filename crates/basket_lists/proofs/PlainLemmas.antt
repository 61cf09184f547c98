-- Sets whose items are concatenated.
use Rattle.std.proofs.Common.{◌≡◌, ℕ, ◌+◌, ◌≤◌, List, [], ◌∷◌, ◌++◌, length, drop, refl, sym, ap, ◌∙◌, arith, Result, OnErr}
use Rattle.std.proofs.lemmas.Grind.{common_steps}
use Rattle.std.specs.Prelude.{All}
use Rattle.std.specs.List.{slice_range}
use Rattle.std.proofs.lemmas.List.{take-append-le, drop_at, length-append, map-append}
use Rattle.std.proofs.lemmas.List.Elements.{recursion_from_All}
use Rattle.std.proofs.lemmas.Slice.{between_is, between_to_end}
use Rattle.basket_lists.specs.declared.set_span.SetSpan.{SetSpan}
use Rattle.basket_lists.specs.Plain.{IsSpanOfSet, spanned, spanned_sets}
use Rattle.basket_sets.specs.declared.counted.Counted.{Counted}
use Rattle.basket_sets.specs.Itemset.{IsRising}
use Rattle.basket_sets.proofs.theory.Members.{at_Member, map_members}

-- ---- more items at the end

range-append : (items more : List ℕ) (start end : ℕ) → end ≤ length items → slice_range (items ++ more) start end ≡ slice_range items start end
range-append items more start end h = between_is (items ++ more) start end ∙ ap (drop start) (take-append-le end items more h) ∙ sym (between_is items start end)

range_at_end : (items more : List ℕ) → slice_range (items ++ more) (length items) (length items + length more) ≡ more
range_at_end items more = between_to_end (items ++ more) (length items) (length items + length more) (omega (arith, length-append items more)) ∙ drop_at items more (length items) refl

spanned-append : (items more : List ℕ) (span : SetSpan) → IsSpanOfSet items span → spanned (items ++ more) span ≡ spanned items span
spanned-append items more span is = ap (λ (set : List ℕ). let c : Counted = record { set = set; count = span.count } in c) (range-append items more span.start span.end is.within.within)

pub spanned_sets-append : (items more : List ℕ) (spans : List SetSpan) → All (IsSpanOfSet items) spans → spanned_sets (items ++ more) spans ≡ spanned_sets items spans
spanned_sets-append items more spans all = map_members (spanned (items ++ more)) (spanned items) spans
    (λ span m. spanned-append items more span (at_Member (IsSpanOfSet items) span spans (recursion_from_All (IsSpanOfSet items) spans all) m))

-- ---- one set more

-- a set at the end of the items
pub record IsAtEnd (items set : List ℕ) (span : SetSpan) : Type 0 where
  pub start : span.start ≡ length items
  pub end : span.end ≡ length items + length set

set_at_end : (items set : List ℕ) (span : SetSpan) → IsAtEnd items set span → slice_range (items ++ set) span.start span.end ≡ set
set_at_end items set span at = ap (λ a. slice_range (items ++ set) a span.end) at.start ∙ ap (λ b. slice_range (items ++ set) (length items) b) at.end ∙ range_at_end items set

pub spans_pushed : (items set : List ℕ) (spans : List SetSpan) (span : SetSpan) → All (IsSpanOfSet items) spans → IsRising set → IsAtEnd items set span
    → All (IsSpanOfSet (items ++ set)) (spans ++ span ∷ [])
spans_pushed items set spans span all up at = grind (arith, common_steps)

pub spanned_sets_pushed : (items set : List ℕ) (spans : List SetSpan) (span : SetSpan) → All (IsSpanOfSet items) spans → IsAtEnd items set span
    → spanned_sets (items ++ set) (spans ++ span ∷ []) ≡ spanned_sets items spans ++ record { set = set; count = span.count } ∷ []
spanned_sets_pushed items set spans span all at = grind (arith, common_steps, map-append, spanned_sets-append, set_at_end)

-- ---- an error that changes nothing

pub on_any_error : {T E : Type 0} {P : Type 0} (result : Result T E) → P → OnErr result P
on_any_error h1 h2 = grind (arith, common_steps)
