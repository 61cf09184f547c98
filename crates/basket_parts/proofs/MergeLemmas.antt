-- Lines in the order of their sets, made one for each set.
use Rattle.std.proofs.Common.{◌≡◌, ℕ, Bool, true, false, List, [], ◌∷◌, map, cond, refl, sym, ◌∙◌, subst, inl, inr, arith}
use Rattle.std.specs.declared.cmp.Ordering.TheVariants.{Less}
use Rattle.std.specs.Ordering.{is_lt}
use Rattle.std.specs.Prelude.{nat_eq}
use Rattle.std.specs.Cmp.Lexicographic.{pointwise}
use Rattle.std.proofs.lemmas.Bool.{cases_Bool}
use Rattle.basket_read.specs.declared.counted_line.CountedLine.{CountedLine}
use Rattle.basket_sets.specs.Order.{IsInReportOrder, report_order, report_order_total}
use Rattle.basket_sets.proofs.theory.Members.{Member, Member-from_map}
use Rattle.basket_parts.specs.CombinedCounts.{is_of}
use Rattle.basket_parts.specs.Merge.{with_more, merged_from, merged}
use Rattle.basket_parts.proofs.theory.Sets.{apart_back, set_of, less_or_same, same_items, nothing_in_order, cons_in_order, has_from_listed, listed_from_has}
use Rattle.basket_parts.proofs.SameLemmas.{SaysSame, says_itself, says_on, says_more, count_more}

-- ---- merging says the same of each set

-- two lines that have one set, or one line for both
pair_as_one : (kept line : CountedLine) (lines : List CountedLine) (set : List ℕ) → is_of kept.set line ≡ true → SaysSame (with_more kept line.count ∷ lines) (kept ∷ line ∷ lines) set
pair_as_one kept line lines set one = grind (arith, same_items line.set kept.set one, count_more)

merged_says : (kept : CountedLine) (lines : List CountedLine) (set : List ℕ) → SaysSame (merged_from kept lines) (kept ∷ lines) set
merged_says kept [] set = says_itself (kept ∷ []) set
merged_says kept (line ∷ lines) set = at (is_of kept.set line) refl (merged_says (with_more kept line.count) lines set) (merged_says line lines set)
  where
    at : (b : Bool) → is_of kept.set line ≡ b → SaysSame (merged_from (with_more kept line.count) lines) (with_more kept line.count ∷ lines) set → SaysSame (merged_from line lines) (line ∷ lines) set
        → SaysSame (cond b (merged_from (with_more kept line.count) lines) (kept ∷ merged_from line lines)) (kept ∷ line ∷ lines) set
    at true one joined apart =
        says_on (merged_from (with_more kept line.count) lines) (with_more kept line.count ∷ lines) (kept ∷ line ∷ lines) set joined (pair_as_one kept line lines set one)
    at false one joined apart = says_more kept (merged_from line lines) (line ∷ lines) set apart

pub merging_says : (lines : List CountedLine) (set : List ℕ) → SaysSame (merged lines) lines set
merging_says [] set = says_itself [] set
merging_says (line ∷ lines) set = merged_says line lines set

-- ---- merging leaves each set once

-- no set is before that of an earlier line
abbrev pub Ascends : List CountedLine → Type 0
Ascends [] = Unit {0}
Ascends (line ∷ lines) = ((other : CountedLine) → Member other lines → is_lt (report_order other.set line.set) ≡ false) × Ascends lines

merged-in_order : (kept : CountedLine) (lines : List CountedLine) → Ascends (kept ∷ lines) → IsInReportOrder (map set_of (merged_from kept lines))
merged-in_order kept [] up = cons_in_order kept.set [] (λ other m. absurd m) nothing_in_order
merged-in_order kept (line ∷ lines) up =
    at (is_of kept.set line) refl (merged-in_order (with_more kept line.count) lines (λ other m. up.0 other (inr m), up.1.1)) (merged-in_order line lines up.1)
  where
    at : (b : Bool) → is_of kept.set line ≡ b → IsInReportOrder (map set_of (merged_from (with_more kept line.count) lines)) → IsInReportOrder (map set_of (merged_from line lines))
        → IsInReportOrder (map set_of (cond b (merged_from (with_more kept line.count) lines) (kept ∷ merged_from line lines)))
    at true one joined alone = joined
    at false one joined alone = cons_in_order kept.set (map set_of (merged_from line lines)) below alone
      where
        less : report_order kept.set line.set ≡ Less
        less = less_or_same kept.set line.set (up.0 line (inl refl)) (apart_back line.set kept.set one)

        later : (set : List ℕ) → Member set (map set_of (line ∷ lines)) → report_order kept.set set ≡ Less
        later set (inl e) = subst (λ s. report_order kept.set s ≡ Less) e less
        later set (inr m) =
            let p = Member-from_map set_of set lines m in
            subst (λ s. report_order kept.set s ≡ Less) p.2 (beyond p.0.set (up.1.0 p.0 p.1))
          where
            beyond : (set : List ℕ) → is_lt (report_order set line.set) ≡ false → report_order kept.set set ≡ Less
            beyond set high = elim (cases_Bool (pointwise nat_eq line.set set)) [
              | inl e ↦ subst (λ x. report_order kept.set x ≡ Less) (same_items line.set set e) less
              | inr e ↦ report_order_total.trans kept.set line.set set less (less_or_same line.set set high e)
            ]

        below : (set : List ℕ) → Member set (map set_of (merged_from line lines)) → report_order kept.set set ≡ Less
        below set m = later set (listed_from_has (line ∷ lines) set (sym (merged_says line lines set).has ∙ has_from_listed (merged_from line lines) set m))

pub merging_in_order : (lines : List CountedLine) → Ascends lines → IsInReportOrder (map set_of (merged lines))
merging_in_order lines h1 = grind (arith, nothing_in_order, merged-in_order)
