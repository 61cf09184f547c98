-- The subsets of a rising list are in report order, and are exactly its nonempty rising sublists.
use Rattle.std.proofs.Common.{◌≡◌, ◌≢◌, ℕ, ◌<◌, List, [], ◌∷◌, length, map, refl, sym, ap, ◌∙◌, subst, inl, inr, arith, zero, suc}
use Rattle.std.proofs.lemmas.Grind.{common_steps}
use Rattle.std.specs.declared.cmp.Ordering.TheVariants.{Less, Equal}
use Rattle.std.specs.Ordering.{nat_cmp, ordering_then}
use Rattle.std.specs.Cmp.{nat_cmp_total}
use Rattle.std.specs.Cmp.Lexicographic.{slice_cmp}
use Rattle.std.specs.List.Sorted.{IsStrictlySortedBy}
use Rattle.std.proofs.lemmas.Cmp.{tied_itself}
use Rattle.std.proofs.lemmas.Bool.{cases_lt}
use Rattle.basket_sets.specs.Itemset.{IsRising}
use Rattle.basket_sets.specs.Order.{report_order, report_order_total, SameSetsAreSameLists}
use Rattle.basket_sets.specs.Subsets.{subsets_of_size, subsets_up_to, subsets_of, SubsetsAreInReportOrder, SubsetsAreExact}
use Rattle.basket_sets.proofs.theory.Members.{Member, Member-append, Member-append_left, Member-append_right, Member-map, Member-from_map, sorted_append, sorted_along, sorted_map, same_members, Member-from_Contains, Contains-from_Member}
use Rattle.basket_sets.proofs.theory.Rising.{nil_rises, cons_rises, first_below, rest_rises, Less-from_lt, has_each, contains_each, length-le-contains}

-- a set of a size whose items are all in the list
pub record IsSubset (size : ℕ) (items set : List ℕ) : Type 0 where
  pub rises : IsRising set
  pub sized : length set ≡ size
  pub within : (item : ℕ) → Member item set → Member item items

with_first : (size x : ℕ) (items set : List ℕ) → IsRising (x ∷ items) → IsSubset size items set → IsSubset (suc size) (x ∷ items) (x ∷ set)
with_first size x items set up s = grind (arith, common_steps, cons_rises, first_below, Member)

-- the list of the subsets of a size has exactly those
pub IsSubset-from_Member : (size : ℕ) (items set : List ℕ) → IsRising items → Member set (subsets_of_size size items) → IsSubset size items set
IsSubset-from_Member zero items set up (inl e) = subst (IsSubset zero items) e (record { rises = nil_rises; sized = refl; within = λ item m. absurd m })
IsSubset-from_Member zero items set up (inr m) = absurd m
IsSubset-from_Member (suc size) [] set up m = absurd m
IsSubset-from_Member (suc size) (x ∷ items) set up m =
    elim (Member-append set (map (λ s. x ∷ s) (subsets_of_size size items)) (subsets_of_size (suc size) items) m) [
      | inl with' ↦ let p = Member-from_map (λ s. x ∷ s) set (subsets_of_size size items) with' in
          subst (IsSubset (suc size) (x ∷ items)) p.2 (with_first size x items p.0 up (IsSubset-from_Member size items p.0 (rest_rises x items up) p.1))
      | inr without ↦ let s = IsSubset-from_Member (suc size) items set (rest_rises x items up) without in
          record { rises = s.rises; sized = s.sized; within = λ item n. inr (s.within item n) }
    ]

pub Member-from_IsSubset : (size : ℕ) (items set : List ℕ) → IsRising items → IsSubset size items set → Member set (subsets_of_size size items)
Member-from_IsSubset zero items [] up s = inl refl
Member-from_IsSubset zero items (y ∷ set) up s = absurd (omega (arith, s.sized))
Member-from_IsSubset (suc size) items [] up s = absurd (omega (arith, s.sized))
Member-from_IsSubset (suc size) [] (y ∷ set) up s = absurd (s.within y (inl refl))
Member-from_IsSubset (suc size) (x ∷ items) (y ∷ set) up s = elim (s.within y (inl refl)) [
  | inl same ↦ Member-append_left (y ∷ set) (map (λ t. x ∷ t) (subsets_of_size size items)) (subsets_of_size (suc size) items)
      (subst (λ z. Member (z ∷ set) (map (λ t. x ∷ t) (subsets_of_size size items))) same
      (Member-map (λ t. x ∷ t) set (subsets_of_size size items) (Member-from_IsSubset size items set (rest_rises x items up) (record {
        rises = rest_rises y set s.rises;
        sized = omega (arith, s.sized);
        within = λ item m. elim (s.within item (inr m)) [ inl e ↦ absurd (let b = first_below y set s.rises item m in omega arith) | inr k ↦ k ];
      }))))
  | inr later ↦ Member-append_right (y ∷ set) (map (λ t. x ∷ t) (subsets_of_size size items)) (subsets_of_size (suc size) items)
      (Member-from_IsSubset (suc size) items (y ∷ set) (rest_rises x items up) (record {
        rises = s.rises;
        sized = s.sized;
        within = λ item m. elim (s.within item m) [ inl e ↦ absurd (above later item m e) | inr k ↦ k ];
      }))
]
  where
    above : Member y items → (item : ℕ) → Member item (y ∷ set) → x ≡ item → ⊥
    above h1 h2 h3 h4 = grind (arith, common_steps, first_below)

-- ---- members of all sizes

up_to-Member : (most size : ℕ) (items set : List ℕ) → Member set (subsets_of_size (suc size) items) → size < most → Member set (subsets_up_to most items)
up_to-Member zero size items set m below = absurd (omega arith)
up_to-Member (suc most) size items set m below = elim (cases_lt size most) [
  | inl less ↦ Member-append_left set (subsets_up_to most items) (subsets_of_size (suc most) items) (up_to-Member most size items set m less)
  | inr at ↦ grind (arith, common_steps, Member-append_right, Member)
]

-- a subset of the list has one of its sizes
pub size_of_Member : (most : ℕ) (items set : List ℕ) → IsRising items → Member set (subsets_up_to most items) → (size : ℕ) × (size < most) × IsSubset (suc size) items set
size_of_Member zero items set up m = absurd m
size_of_Member (suc most) items set up m = elim (Member-append set (subsets_up_to most items) (subsets_of_size (suc most) items) m) [
  | inl smaller ↦ let r = size_of_Member most items set up smaller in (r.0, omega (arith, r.1), r.2)
  | inr here ↦ (most, omega arith, IsSubset-from_Member (suc most) items set up here)
]

-- a nonempty rising list of items of the list is among its subsets
pub Member-subsets : (items set : List ℕ) → IsRising items → IsRising set → set ≢ [] → ((item : ℕ) → Member item set → Member item items) → Member set (subsets_of items)
Member-subsets items [] up rises some within = absurd (some refl)
Member-subsets items (y ∷ set) up rises some within =
    up_to-Member (length items) (length set) items (y ∷ set)
    (Member-from_IsSubset (suc (length set)) items (y ∷ set) up (record { rises = rises; sized = refl; within = within }))
    (let n = length-le-contains (y ∷ set) items rises up within in omega arith)

-- ---- report order

nat_cmp_same : (x : ℕ) → nat_cmp x x ≡ Equal
nat_cmp_same x = tied_itself nat_cmp_total x

-- a first number that two lists share doesn't matter
pub same_head : (x : ℕ) (a b : List ℕ) → slice_cmp nat_cmp (x ∷ a) (x ∷ b) ≡ slice_cmp nat_cmp a b
same_head x a b = ap (λ o. ordering_then o (slice_cmp nat_cmp a b)) (nat_cmp_same x)

first_less : (x y : ℕ) (a b : List ℕ) → x < y → slice_cmp nat_cmp (x ∷ a) (y ∷ b) ≡ Less
first_less x y a b h = ap (λ o. ordering_then o (slice_cmp nat_cmp a b)) (Less-from_lt x y h)

-- the subsets of one size are sorted lexicographically
pub of_size_sorted : (size : ℕ) (items : List ℕ) → IsRising items → IsStrictlySortedBy (slice_cmp nat_cmp) (subsets_of_size size items)
unfolding IsStrictlySortedBy
of_size_sorted zero items up = (tt, tt)
of_size_sorted (suc size) [] up = tt
of_size_sorted (suc size) (x ∷ items) up =
    sorted_append (slice_cmp nat_cmp) (map (λ t. x ∷ t) (subsets_of_size size items)) (subsets_of_size (suc size) items)
    (sorted_map (slice_cmp nat_cmp) (slice_cmp nat_cmp) (λ t. x ∷ t) (subsets_of_size size items) (λ a b h. same_head x a b ∙ h) (of_size_sorted size items (rest_rises x items up)))
    (of_size_sorted (suc size) items (rest_rises x items up))
    (λ a b m n. across a b (Member-from_map (λ t. x ∷ t) a (subsets_of_size size items) m) (IsSubset-from_Member (suc size) items b (rest_rises x items up) n))
  where
    across : (a b : List ℕ) → (t : List ℕ) × Member t (subsets_of_size size items) × (x ∷ t ≡ a) → IsSubset (suc size) items b → slice_cmp nat_cmp a b ≡ Less
    across a [] p s = absurd (omega (arith, s.sized))
    across a (y ∷ b) p s = subst (λ w. slice_cmp nat_cmp w (y ∷ b) ≡ Less) p.2 (first_less x y p.0 b (first_below x items up y (s.within y (inl refl))))

shorter_first : (a b : List ℕ) → length a < length b → report_order a b ≡ Less
shorter_first a b h = ap (λ o. ordering_then o (slice_cmp nat_cmp a b)) (Less-from_lt (length a) (length b) h)

-- sets of one size are in report order where they are in lexicographic order
pub same_order : (a b : List ℕ) → length a ≡ length b → report_order a b ≡ slice_cmp nat_cmp a b
same_order a b e = ap (λ n. ordering_then (nat_cmp n (length b)) (slice_cmp nat_cmp a b)) e ∙ ap (λ o. ordering_then o (slice_cmp nat_cmp a b)) (nat_cmp_same (length b))

pub same_length : (a b : List ℕ) → length a ≡ length b → slice_cmp nat_cmp a b ≡ Less → report_order a b ≡ Less
same_length a b e h = same_order a b e ∙ h

up_to_sorted : (most : ℕ) (items : List ℕ) → IsRising items → IsStrictlySortedBy report_order (subsets_up_to most items)
unfolding IsStrictlySortedBy
up_to_sorted zero items up = tt
up_to_sorted (suc most) items up =
    sorted_append report_order (subsets_up_to most items) (subsets_of_size (suc most) items) (up_to_sorted most items up)
    (sorted_along (slice_cmp nat_cmp) report_order (subsets_of_size (suc most) items)
    (λ a b m n h. let s = IsSubset-from_Member (suc most) items a up m in let t = IsSubset-from_Member (suc most) items b up n in same_length a b (s.sized ∙ sym t.sized) h)
    (of_size_sorted (suc most) items up))
    (λ a b m n. let s = size_of_Member most items a up m in let t = IsSubset-from_Member (suc most) items b up n in
    shorter_first a b (let e = s.2.sized in let f = t.sized in let g = s.1 in omega arith))

-- the subsets are strictly sorted by report order
pub subsets_sorted : (items : List ℕ) → IsRising items → IsStrictlySortedBy report_order (subsets_of items)
subsets_sorted items up = up_to_sorted (length items) items up

-- what a member of the subsets is
pub subset_from_Member : (items set : List ℕ) → IsRising items → Member set (subsets_of items) → IsRising set × (set ≢ []) × ((item : ℕ) → Member item set → Member item items)
subset_from_Member items set up m = grind (arith, common_steps, size_of_Member (length items) items set up m)

-- the subsets of a rising list are in report order
pub subsets_are_in_report_order : SubsetsAreInReportOrder
subsets_are_in_report_order = subsets_sorted

-- they are exactly its nonempty rising sublists
pub subsets_are_exact : SubsetsAreExact
subsets_are_exact items set up = (
  λ m. let s = subset_from_Member items set up (Member-from_Contains set (subsets_of items) m) in (s.0, s.1, contains_each items set s.2),
  λ s. Contains-from_Member set (subsets_of items) (Member-subsets items set up s.0 s.1 (has_each items set s.2)),
)

-- lists in report order with the same sets are equal
pub same_sets_are_same_lists : SameSetsAreSameLists
same_sets_are_same_lists a b s t same = same_members report_order_total a b s t
    (λ z m. Member-from_Contains z b ((same z).0 (Contains-from_Member z a m))) (λ z m. Member-from_Contains z a ((same z).1 (Contains-from_Member z b m)))
