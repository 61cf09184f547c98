use Rattle.std.proofs.Common.{◌≡◌, ℕ, true, List, length, refl, sym, ap, ◌∙◌}
use Rattle.std.specs.declared.cmp.Ordering.{Ordering}
use Rattle.std.specs.Ordering.{nat_cmp, ordering_then, is_eq, eq_by_cmp, as_partial_cmp}
use Rattle.std.specs.Hash as fed
use Rattle.std.specs.Cmp.{IsTotalOrder, IsPartialOrder, nat_cmp_total, partial_order_from_agreeing_total}
use Rattle.std.specs.Cmp.Lexicographic.{slice_cmp, pointwise, nat_list_cmp_total, texts_ties, unequal, bytes_decides}
use Rattle.std.specs.Prelude.{nat_eq, ◌↔◌}
use Rattle.std.specs.List.{Contains}
use Rattle.std.specs.List.Sorted.{IsStrictlySortedBy}
use Rattle.std.proofs.lemmas.Cmp.{then_total, on_total, ranked, by_ranked}
use Rattle.std.proofs.Common.{arith}

-- report order: smaller sets first, sets of one size lexicographically by item number
abbrev pub report_order : List ℕ → List ℕ → Ordering
report_order a b = ordering_then (nat_cmp (length a) (length b)) (slice_cmp nat_cmp a b)

-- each set stands before every later one
abbrev pub IsInReportOrder : List (List ℕ) → Type 0
IsInReportOrder sets = IsStrictlySortedBy report_order sets

-- two lists of sets that are in report order and have the same sets are equal
abbrev pub SameSetsAreSameLists : Type 0
SameSetsAreSameLists = (a b : List (List ℕ)) → IsInReportOrder a → IsInReportOrder b → ((set : List ℕ) → Contains a set ↔ Contains b set) → a ≡ b

-- the laws of a comparison

pub report_order_total : IsTotalOrder report_order
report_order_total = then_total (on_total length nat_cmp_total) nat_list_cmp_total

-- sets are equal exactly where report order finds them so
pub report_order_ties : (a b : List ℕ) → pointwise nat_eq a b ≡ eq_by_cmp report_order a b
report_order_ties a b = by_ranked _ _ _ (nat_cmp (length a) (length b)) (ranked (length a) (length b) _ refl)
    (λ e below. unequal nat_eq a b (λ same. absurd (omega arith)) ∙ ap (λ o. is_eq (ordering_then o (slice_cmp nat_cmp a b))) (sym e))
    (λ e same. texts_ties a b ∙ ap (λ o. is_eq (ordering_then o (slice_cmp nat_cmp a b))) (sym e))
    (λ e above. unequal nat_eq a b (λ same. absurd (omega arith)) ∙ ap (λ o. is_eq (ordering_then o (slice_cmp nat_cmp a b))) (sym e))

pub report_order_partial : IsPartialOrder (pointwise nat_eq) (as_partial_cmp report_order)
report_order_partial = partial_order_from_agreeing_total report_order report_order_total (λ _ _. refl) report_order_ties

-- equal sets are hashed alike
pub items_fed_alike : (a b : List ℕ) → pointwise nat_eq a b ≡ true → fed.slice fed.u32 a ≡ fed.slice fed.u32 b
items_fed_alike a b e = ap (fed.slice fed.u32) ((bytes_decides a b).0 e)
