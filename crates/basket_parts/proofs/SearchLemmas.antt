-- A binary search of lines whose sets are in report order.
use Rattle.std.proofs.Common.{◌≡◌, ℕ, ◌+◌, ◌<◌, true, List, [], map, cond, length, get_or, Some, None, Err, sym, ap, ◌∙◌, subst, inl, inr, arith}
use Rattle.std.specs.declared.cmp.Ordering.TheVariants.{Less, Equal, Greater}
use Rattle.std.specs.Ordering.{is_lt, is_eq, ordering_reverse}
use Rattle.std.specs.List.{HoldsAt}
use Rattle.std.specs.List.Sorted.{IsSortedByKey, IsBinarySearchResult}
use Rattle.std.proofs.lemmas.Bool.{cases_lt, false_from_ne_true}
use Rattle.std.proofs.lemmas.Cmp.{tied_itself}
use Rattle.std.proofs.lemmas.List.{get_or-map, length-map}
use Rattle.std.proofs.lemmas.List.Sorted.{searchable_from_sorted}
use Rattle.std.proofs.lemmas.Map.Keys.{Less-from_sorted}
use Rattle.basket_read.specs.declared.counted_line.CountedLine.{CountedLine}
use Rattle.basket_sets.specs.Order.{IsInReportOrder, report_order, report_order_total, report_order_ties}
use Rattle.basket_sets.proofs.theory.Members.{Member, Member-map, Member-from_map, Member-from_Contains, Contains-from_Member}
use Rattle.basket_parts.specs.CombinedCounts.{has_set, count_in, count_if}
use Rattle.basket_parts.proofs.theory.Sets.{set_of, same_items, has_from_listed, listed_from_has}
use Rattle.basket_parts.proofs.SameLemmas.{stands_alone}

sorted_lines : (lines : List CountedLine) → IsInReportOrder (map set_of lines) → IsSortedByKey set_of report_order lines
sorted_lines lines up k d low high =
    let this = (get_or lines k d).set in
    let next = (get_or lines (k + 1) d).set in
    let long = length-map lines set_of in
    let less : report_order this next ≡ Less =
    ap (λ s. report_order s next) (sym (get_or-map set_of lines k d [] (omega arith)))
    ∙ ap (λ s. report_order (get_or (map set_of lines) k []) s) (sym (get_or-map set_of lines (k + 1) d [] high))
    ∙ Less-from_sorted report_order (map set_of lines) k (k + 1) [] up (omega arith) (omega arith) in
    ap is_lt (report_order_total.antisymm next this ∙ ap ordering_reverse less)

-- a line that is found has the count of the set
pub found_count : (lines : List CountedLine) (set : List ℕ) (index : ℕ) (line : CountedLine) → IsInReportOrder (map set_of lines) → index < length lines → line ≡ get_or lines index line
    → HoldsAt (λ (y : CountedLine). report_order y.set set ≡ Equal) lines index → Some line.count ≡ count_if lines set
found_count lines set index line up below is at =
    ap Some (sym (ap (λ (l : CountedLine). l.count) (stands_alone lines up line member)) ∙ ap (count_in lines) same)
    ∙ sym (ap (λ b. cond b (Some (count_in lines set)) None) has)
  where
    same : line.set ≡ set
    same = same_items line.set set (report_order_ties line.set set ∙ ap is_eq (ap (λ (l : CountedLine). report_order l.set set) is ∙ at line))

    member : Member line lines
    member = Member-from_Contains line lines (index, below, sym is)

    has : has_set lines set ≡ true
    has = has_from_listed lines set (subst (λ s. Member s (map set_of lines)) same (Member-map set_of line lines member))

-- a set that is not found is in no line
pub missing_count : (lines : List CountedLine) (set : List ℕ) (index : ℕ) → IsInReportOrder (map set_of lines) → IsBinarySearchResult (λ (y : CountedLine). report_order y.set set) lines (Err index)
    → None ≡ count_if lines set
missing_count lines set index up is = sym (ap (λ b. cond b (Some (count_in lines set)) None) (false_from_ne_true (has_set lines set) none))
  where
    none : has_set lines set ≡ true → ⊥
    none h =
        let p = Member-from_map set_of set lines (listed_from_has lines set h) in
        let at = Contains-from_Member p.0 lines p.1 in
        let point = is (searchable_from_sorted report_order_total set_of lines set (sorted_lines lines up)) in
        let equal : report_order (get_or lines at.0 p.0).set set ≡ Equal =
        ap (λ (l : CountedLine). report_order l.set set) at.2 ∙ ap (λ s. report_order s set) p.2 ∙ tied_itself report_order_total set in
        elim (cases_lt at.0 index) [
          | inl low ↦ (let less = point.0 at.0 p.0 (omega arith) low in let no : Less ≡ Equal = sym less ∙ equal in cc)
          | inr high ↦ (let more = point.1 at.0 p.0 high at.1 in let no : Greater ≡ Equal = sym more ∙ equal in cc)
        ]
