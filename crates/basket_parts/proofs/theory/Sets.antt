-- The sets of lines, in report order.
use Rattle.std.proofs.lemmas.Grind.{common_steps}
use Rattle.std.proofs.Common.{◌≡◌, ℕ, Bool, true, false, List, [], ◌∷◌, map, cond, refl, sym, ap, ◌∙◌, subst, inl, inr, ◌⊎◌, arith}
use Rattle.std.specs.declared.cmp.Ordering.{Ordering}
use Rattle.std.specs.declared.cmp.Ordering.TheVariants.{Less, Equal, Greater}
use Rattle.std.specs.Ordering.{is_lt, is_eq, ordering_reverse}
use Rattle.std.specs.Prelude.{nat_eq}
use Rattle.std.specs.Cmp.Lexicographic.{pointwise, bytes_decides}
use Rattle.std.specs.List.Sorted.{IsStrictlySortedBy}
use Rattle.std.proofs.lemmas.Bool.{false_from_ne_true, false≢true, true≢false, or_cases, or_left, or_right}
use Rattle.basket_read.specs.declared.counted_line.CountedLine.{CountedLine}
use Rattle.basket_sets.specs.Order.{IsInReportOrder, report_order, report_order_total, report_order_ties}
use Rattle.basket_sets.proofs.theory.Members.{Member, All-from_Member, first_is_less, rest_is_sorted, same_members}
use Rattle.basket_parts.specs.CombinedCounts.{is_of, has_set, with_set, sets_of}

abbrev pub set_of : CountedLine → List ℕ
set_of line = line.set

-- ---- report order

-- a set that is neither after another nor the same is before it
pub less_or_same : (a b : List ℕ) → is_lt (report_order b a) ≡ false → pointwise nat_eq a b ≡ false → report_order a b ≡ Less
less_or_same a b up apart =
    let flip = report_order_total.antisymm a b in flip ∙ turned (report_order b a) up (ap is_eq (sym flip) ∙ sym (report_order_ties a b) ∙ apart)
  where
    turned : (o : Ordering) → is_lt o ≡ false → is_eq (ordering_reverse o) ≡ false → ordering_reverse o ≡ Less
    turned Less low differ = absurd (true≢false low)
    turned Equal low differ = absurd (true≢false differ)
    turned Greater low differ = refl

less_from_test : (r : Ordering) → is_lt r ≡ true → r ≡ Less
less_from_test r h1 = grind (arith, common_steps)

-- two lists that have one set
pub same_items : (a b : List ℕ) → pointwise nat_eq a b ≡ true → a ≡ b
same_items a b e = (bytes_decides a b).0 e

pub itself : (set : List ℕ) → pointwise nat_eq set set ≡ true
itself set = (bytes_decides set set).1 refl

pub apart_back : (a b : List ℕ) → pointwise nat_eq a b ≡ false → pointwise nat_eq b a ≡ false
apart_back a b apart = false_from_ne_true (pointwise nat_eq b a) (λ e. true≢false (sym (itself a) ∙ subst (λ s. pointwise nat_eq a s ≡ false) (same_items b a e) apart))

-- a set before a set before others
pub first_before : (first : List ℕ) (sets : List (List ℕ)) (set : List ℕ) → IsInReportOrder (first ∷ sets) → report_order set first ≡ Less → (other : List ℕ) → Member other (first ∷ sets)
    → report_order set other ≡ Less
first_before first sets set up less other (inl e) = subst (λ s. report_order set s ≡ Less) e less
first_before first sets set up less other (inr m) = report_order_total.trans set first other less (first_is_less report_order_total first other sets up m)

pub nothing_in_order : IsInReportOrder []
unfolding IsStrictlySortedBy
nothing_in_order = tt

pub cons_in_order : (set : List ℕ) (sets : List (List ℕ)) → ((other : List ℕ) → Member other sets → report_order set other ≡ Less) → IsInReportOrder sets → IsInReportOrder (set ∷ sets)
unfolding IsStrictlySortedBy
cons_in_order set sets below up = (All-from_Member (λ other. report_order set other ≡ Less) sets below, up)

-- ---- a set in its order

Member-with_set : (set : List ℕ) (sets : List (List ℕ)) (other : List ℕ) → Member other (with_set set sets) → (set ≡ other) ⊎ Member other sets
Member-with_set set [] other (inl e) = inl e
Member-with_set set [] other (inr m) = absurd m
Member-with_set set (first ∷ sets) other m = grind (arith, common_steps, Member-with_set set sets other)

Member-into_with_set : (set : List ℕ) (sets : List (List ℕ)) (other : List ℕ) → (set ≡ other) ⊎ Member other sets → Member other (with_set set sets)
Member-into_with_set set [] other (inl e) = inl e
Member-into_with_set set [] other (inr m) = absurd m
Member-into_with_set set (first ∷ sets) other m = let rest = Member-into_with_set set sets other in let same = same_items set first in grind (arith, common_steps)

order_at : (set first : List ℕ) (sets rest : List (List ℕ)) (p q : Bool) → is_lt (report_order set first) ≡ p → pointwise nat_eq set first ≡ q → IsInReportOrder (first ∷ sets) → IsInReportOrder rest
    → ((other : List ℕ) → Member other rest → (set ≡ other) ⊎ Member other sets) → IsInReportOrder (cond p (set ∷ first ∷ sets) (cond q (first ∷ sets) (first ∷ rest)))
order_at set first sets rest true q less is up later from =
    cons_in_order set (first ∷ sets) (first_before first sets set up (less_from_test (report_order set first) less)) up
order_at set first sets rest false true less is up later from = up
order_at set first sets rest false false less is up later from = cons_in_order first rest (λ other m. elim (from other m) [
  | inl e ↦ subst (λ s. report_order first s ≡ Less) e (less_or_same first set less (apart_back set first is))
  | inr n ↦ first_is_less report_order_total first other sets up n
]) later

with_set-in_order : (set : List ℕ) (sets : List (List ℕ)) → IsInReportOrder sets → IsInReportOrder (with_set set sets)
with_set-in_order set [] up = cons_in_order set [] (λ other m. absurd m) up
with_set-in_order set (first ∷ sets) up = grind (arith, with_set-in_order set sets (rest_is_sorted report_order_total first sets up), rest_is_sorted report_order_total first sets up, Member-with_set set sets, order_at)

-- ---- the sets of lines

pub sets-in_order : (lines : List CountedLine) → IsInReportOrder (sets_of lines)
sets-in_order [] = nothing_in_order
sets-in_order (line ∷ lines) = with_set-in_order line.set (sets_of lines) (sets-in_order lines)

pub has_from_sets : (lines : List CountedLine) (set : List ℕ) → Member set (sets_of lines) → has_set lines set ≡ true
has_from_sets [] set m = absurd m
has_from_sets (line ∷ lines) set m = elim (Member-with_set line.set (sets_of lines) set m) [
  | inl e ↦ or_left (is_of set line) (has_set lines set) (ap (λ s. pointwise nat_eq s set) e ∙ itself set)
  | inr n ↦ or_right (is_of set line) (has_set lines set) (has_from_sets lines set n)
]

pub sets_from_has : (lines : List CountedLine) (set : List ℕ) → has_set lines set ≡ true → Member set (sets_of lines)
sets_from_has [] set h = absurd (false≢true h)
sets_from_has (line ∷ lines) set h = Member-into_with_set line.set (sets_of lines) set (elim (or_cases (is_of set line) (has_set lines set) h) [
  | inl e ↦ inl (same_items line.set set e)
  | inr e ↦ inr (sets_from_has lines set e)
])

-- the sets as they stand in the lines
pub has_from_listed : (lines : List CountedLine) (set : List ℕ) → Member set (map set_of lines) → has_set lines set ≡ true
has_from_listed [] set m = absurd m
has_from_listed (line ∷ lines) set (inl e) = or_left (is_of set line) (has_set lines set) (ap (λ s. pointwise nat_eq s set) e ∙ itself set)
has_from_listed (line ∷ lines) set (inr m) = or_right (is_of set line) (has_set lines set) (has_from_listed lines set m)

pub listed_from_has : (lines : List CountedLine) (set : List ℕ) → has_set lines set ≡ true → Member set (map set_of lines)
listed_from_has [] set h = absurd (false≢true h)
listed_from_has (line ∷ lines) set h = elim (or_cases (is_of set line) (has_set lines set) h) [
  | inl e ↦ inl (same_items line.set set e)
  | inr e ↦ inr (listed_from_has lines set e)
]

-- lines that have the same sets
pub same_sets : (a b : List CountedLine) → ((set : List ℕ) → has_set a set ≡ has_set b set) → sets_of a ≡ sets_of b
same_sets a b same = same_members report_order_total (sets_of a) (sets_of b) (sets-in_order a) (sets-in_order b)
    (λ set m. sets_from_has b set (sym (same set) ∙ has_from_sets a set m)) (λ set m. sets_from_has a set (same set ∙ has_from_sets b set m))

-- lines whose sets are in report order
pub sets_listed : (lines : List CountedLine) → IsInReportOrder (map set_of lines) → sets_of lines ≡ map set_of lines
sets_listed lines up = same_members report_order_total (sets_of lines) (map set_of lines) (sets-in_order lines) up
    (λ set m. listed_from_has lines set (has_from_sets lines set m)) (λ set m. sets_from_has lines set (has_from_listed lines set m))
