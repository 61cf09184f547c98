-- Counted sets without a gap are consistent.
use Rattle.std.proofs.Common.{◌≡◌, ◌≢◌, ◌∙◌, ◌⊎◌, inl, inr, ℕ, zero, suc, ◌+◌, ◌-◌, ◌<◌, ◌≤◌, Bool, true, false, List, [], ◌∷◌, Option, None, ap, arith, cond, filter, length, map, refl, sym, subst}
use Rattle.std.proofs.lemmas.Grind.{common_steps}
use Rattle.std.specs.Prelude.{All, ◌&&◌, ◌==◌, find, nat_eq, not, option_map}
use Rattle.std.specs.Cmp.Lexicographic.{pointwise, bytes_decides}
use Rattle.std.specs.List.{list_any}
use Rattle.std.specs.List.Sorted.{IsStrictlySortedBy}
use Rattle.std.proofs.lemmas.Bool.{false≢true}
use Rattle.std.proofs.lemmas.Bool.Decides.{nat_tests}
use Rattle.std.proofs.lemmas.List.Elements.{All-from_recursion, recursion_from_All}
use Rattle.std.proofs.lemmas.List.Kept.{IsStrictlySortedBy-filter}
use Rattle.basket_core.specs.Listing.{Listing}
use Rattle.basket_parts.specs.Frequent.{HasRisingSet}
use Rattle.basket_parts.specs.Gap.{first_gap, has_gap, is_gap}
use Rattle.basket_parts.specs.CombinedCounts.{count_if, count_in, counted_in, frequent_in, is_frequent_in, sets_of, total_in}
use Rattle.basket_parts.proofs.theory.Sets.{has_from_sets, listed_from_has, sets-in_order, sets_from_has}
use Rattle.basket_plan.specs.Plan.{Question}
use Rattle.basket_read.specs.declared.counted_line.CountedLine.{CountedLine}
use Rattle.basket_outcome.specs.Counted.{IsWhole, gap_in}
use Rattle.basket_rules.specs.Consistency.{HasSubsets, IsConsistent, count_in as listed_count}
use Rattle.basket_sets.specs.Itemset.{without, IsRising}
use Rattle.basket_sets.specs.declared.counted.Counted.{Counted}
use Rattle.basket_sets.specs.declared.minimum.Minimum.{Minimum}
use Rattle.basket_sets.specs.Frequent.{IsNonemptySet}
use Rattle.basket_sets.specs.Minimum.{meets}
use Rattle.basket_sets.specs.Order.{report_order}
use Rattle.basket_sets.specs.Subsets.{subsets_of_size}
use Rattle.basket_sets.proofs.theory.Members.{All-from_Member, Member, Member-append_left, Member-append_right, Member-filter, Member-from_filter, Member-from_map, Member-map, at_Member}
use Rattle.basket_sets.proofs.theory.Support.{at_least_one, meets_more}

both : (a b : Bool) → (a && b) ≡ true → (a ≡ true) × (b ≡ true)
both h1 h2 h3 = grind (arith, common_steps)

some_items : (set : List ℕ) → not (length set == 0) ≡ true → set ≢ []
some_items set e none = false≢true (sym (ap (λ s. not (length s == 0)) none) ∙ e)

not_none : (n : ℕ) → 1 ≤ n → not (n == 0) ≡ true
not_none n some = grind (arith, nat_tests, some)

-- ---- subsets of one item less

shorter : (index : ℕ) (items : List ℕ) → index < length items → length (without index items) + 1 ≡ length items
shorter index [] below = absurd (omega (arith, below))
shorter zero (item ∷ items) below = omega arith
shorter (suc index) (item ∷ items) below = let rest = shorter index items (omega (arith, below)) in omega (arith, rest)

all_of_it : (items : List ℕ) → Member items (subsets_of_size (length items) items)
all_of_it [] = inl refl
all_of_it (item ∷ items) = Member-append_left (item ∷ items) _ _ (Member-map (λ set. item ∷ set) items (subsets_of_size (length items) items) (all_of_it items))

after_first : (size item : ℕ) (items set : List ℕ) → Member set (subsets_of_size size items) → Member set (subsets_of_size size (item ∷ items))
after_first h1 h2 h3 h4 h5 = grind (arith, common_steps, Member-append_right)

without_is_subset : (index size : ℕ) (items : List ℕ) → index < length items → suc size ≡ length items → Member (without index items) (subsets_of_size size items)
without_is_subset index size [] below sized = absurd (omega (arith, below))
without_is_subset zero size (item ∷ items) below sized =
    let e : length items ≡ size = omega (arith, sized) in
    after_first size item items items (subst (λ n. Member items (subsets_of_size n items)) e (all_of_it items))
without_is_subset (suc index) zero (item ∷ items) below sized = absurd (omega (arith, below, sized))
without_is_subset (suc index) (suc size) (item ∷ items) below sized =
    Member-append_left (item ∷ without index items) (map (λ s. item ∷ s) (subsets_of_size size items)) (subsets_of_size (suc size) items)
    (Member-map (λ s. item ∷ s) (without index items) (subsets_of_size size items) (without_is_subset index size items (omega (arith, below)) (omega (arith, sized))))

-- ---- nothing is found

none_found : {A : Type 0} (p : A → Bool) (list : List A) → find p list ≡ None → (x : A) → Member x list → p x ≡ false
none_found p [] e x m = absurd m
none_found p (y ∷ list) e x m = grind (arith, common_steps, none_found p list)

nothing_mapped : {A B : Type 0} (f : A → B) (o : Option A) → option_map f o ≡ None → o ≡ None
nothing_mapped h1 h2 h3 = grind (arith, common_steps)

none_any : {A : Type 0} (p : A → Bool) (list : List A) → list_any p list ≡ false → (x : A) → Member x list → p x ≡ false
none_any p [] e x m = absurd m
none_any p (y ∷ list) e x m = grind (arith, common_steps, none_any p list)

-- ---- the sets that meet a minimum

listed_is : (lines : List CountedLine) (sets : List (List ℕ)) (set : List ℕ) → Member set sets → listed_count (map (counted_in lines) sets) set ≡ count_in lines set
listed_is lines [] set m = absurd m
listed_is lines (x ∷ sets) set m = go (pointwise nat_eq x set) refl m (listed_is lines sets set)
  where
    go : (b : Bool) → pointwise nat_eq x set ≡ b → ((x ≡ set) ⊎ Member set sets) → (Member set sets → listed_count (map (counted_in lines) sets) set ≡ count_in lines set)
        → cond b (count_in lines x) (listed_count (map (counted_in lines) sets) set) ≡ count_in lines set
    go true is m rest = ap (count_in lines) ((bytes_decides x set).0 is)
    go false is (inl same) rest = absurd (false≢true (sym is ∙ (bytes_decides x set).1 same))
    go false is (inr m) rest = rest m

sets_of_counted : (lines : List CountedLine) (sets : List (List ℕ)) → map (λ (c : Counted). c.set) (map (counted_in lines) sets) ≡ sets
sets_of_counted lines [] = refl
sets_of_counted lines (set ∷ sets) = ap (λ rest. set ∷ rest) (sets_of_counted lines sets)

-- each is a set of a line, whose items rise
frequent_rises : (lines : List CountedLine) (minimum : Minimum) → All HasRisingSet lines → (c : Counted) → Member c (frequent_in lines minimum) → IsRising c.set
frequent_rises lines minimum rise c m =
    let p = Member-from_map (counted_in lines) c (filter (is_frequent_in lines minimum) (sets_of lines)) m in
    let kept = Member-filter (is_frequent_in lines minimum) p.0 (sets_of lines) p.1 in
    let q = Member-from_map (λ (line : CountedLine). line.set) p.0 lines (listed_from_has lines p.0 (has_from_sets lines p.0 kept.0)) in
    subst (λ (c : Counted). IsRising c.set) p.2 (subst IsRising q.2 (at_Member HasRisingSet q.0 lines (recursion_from_All HasRisingSet lines rise) q.1))

module _ (lines : List CountedLine) (minimum : Minimum) (lines_rise : All HasRisingSet lines) (whole : first_gap lines minimum ≡ None) where
  rise : (c : Counted) → Member c (frequent_in lines minimum) → IsRising c.set
  rise = frequent_rises lines minimum lines_rise

  abbrev frequent_sets : List (List ℕ)
  frequent_sets = filter (is_frequent_in lines minimum) (sets_of lines)

  no_gap : (set : List ℕ) → Member set frequent_sets → has_gap lines set ≡ false
  no_gap set m = grind (arith, common_steps, none_found, nothing_mapped, Member-map)

  met : (set : List ℕ) → Member set frequent_sets → (set ≢ []) × (meets minimum (count_in lines set) (total_in lines) ≡ true)
  met set m = grind (arith, common_steps, both, Member-filter, some_items)

  subset_there : (set subset : List ℕ) → Member set frequent_sets → 1 ≤ length subset → is_gap (count_in lines set) subset (count_if lines subset) ≡ false
      → count_in lines set ≤ listed_count (frequent_in lines minimum) subset
  subset_there set subset m some gap = grind (arith, common_steps, nat_tests, not_none, meets_more, met, Member-from_filter, sets_from_has, listed_is)

  has_subsets : (set : List ℕ) → Member set frequent_sets → HasSubsets (frequent_in lines minimum) (counted_in lines set)
  has_subsets set m index below long =
      let size : suc (length set - 1) ≡ length set = omega (arith, long) in
      let less = shorter index set below in
      let gap = none_any _ (subsets_of_size (length set - 1) set) (no_gap set m) (without index set) (without_is_subset index (length set - 1) set below size) in
      subset_there set (without index set) m (omega (arith, less, long)) gap

  each : (P : Counted → Type 0) → ((set : List ℕ) → Member set frequent_sets → P (counted_in lines set)) → All P (frequent_in lines minimum)
  each P holds = All-from_recursion P (frequent_in lines minimum)
      (All-from_Member P (frequent_in lines minimum) (λ c m. let p = Member-from_map (counted_in lines) c frequent_sets m in subst P p.2 (holds p.0 p.1)))

  pub whole_is_consistent : IsConsistent (frequent_in lines minimum)
  whole_is_consistent = record {
    in_order = subst (IsStrictlySortedBy report_order) (sym (sets_of_counted lines frequent_sets)) (IsStrictlySortedBy-filter report_order (is_frequent_in lines minimum) (sets_of lines) (sets-in_order lines));
    nonempty = each (λ c. IsNonemptySet c.set) (λ set m. (rise (counted_in lines set) (Member-map (counted_in lines) set frequent_sets m), (met set m).0));
    counted = each (λ c. 1 ≤ c.count) (λ set m. at_least_one minimum (count_in lines set) (total_in lines) (met set m).1);
    subsets = each (HasSubsets (frequent_in lines minimum)) has_subsets;
  }

-- so is a listing that was made of them where subsets matter
pub listing_is_whole : (question : Question) (lines : List CountedLine) (listing : Listing) → gap_in question lines ≡ None → All HasRisingSet lines
    → listing ≡ record { sets = frequent_in lines question.minimum; total = total_in lines } → IsWhole question.ask listing
listing_is_whole question lines listing none rise made needs =
    let whole : first_gap lines question.minimum ≡ None = sym (ap (λ b. cond b (first_gap lines question.minimum) None) needs) ∙ none in
    subst (λ (l : Listing). IsConsistent l.sets) (sym made) (whole_is_consistent lines question.minimum rise whole)
