-- What the candidates of sets of one size are, and those of a database, which its frequent sets settle.
use Rattle.std.proofs.Common.{◌≡◌, ℕ, ◌+◌, ◌<◌, true, List, [], ◌∷◌, ◌++◌, length, flat_map, refl, sym, subst, inl, inr, ◌⊎◌, arith, zero, suc, ◌≢◌, ◌-◌, ◌≤◌, Bool, leb}
use Rattle.std.proofs.lemmas.Grind.{common_steps}
use Rattle.std.specs.List.Sorted.{IsStrictlySortedBy}
use Rattle.std.specs.List.{Contains, list_all}
use Rattle.std.proofs.lemmas.List.Kept.{IsStrictlySortedBy-filter}
use Rattle.std.proofs.lemmas.Bool.{and_from, and_parts, le-leb, leb-true}
use Rattle.std.proofs.lemmas.List.Elements.{recursion_from_All}
use Rattle.basket_sets.specs.Itemset.{IsRising, without}
use Rattle.basket_sets.specs.Order.{IsInReportOrder, report_order, report_order_total}
use Rattle.basket_sets.specs.Subsets.{subsets_of_size, subsets_of}
use Rattle.mine_supports.specs.Sizes.{AreOfSize}
use Rattle.basket_sets.specs.declared.weighted.Weighted.{Weighted}
use Rattle.basket_sets.specs.declared.minimum.Minimum.{Minimum}
use Rattle.basket_sets.specs.Frequent.{counted, frequent_of, is_frequent}
use Rattle.basket_sets.specs.Support.{all_items, items_of}
use Rattle.basket_sets.proofs.theory.Members.{Member, Member-append, Member-append_right, Member-filter, Member-from_filter, sorted_along, Member-from_Contains, Contains-from_Member, at_Member, same_members}
use Rattle.basket_sets.proofs.theory.Rising.{rising-rises, has_each, contains_each}
use Rattle.basket_sets.proofs.theory.Subsets.{IsSubset, IsSubset-from_Member, Member-from_IsSubset, of_size_sorted, same_length, Member-subsets, subset_from_Member, subsets_sorted}
use Rattle.basket_sets.proofs.theory.Tests.{all_of, each_of}
use Rattle.basket_sets.proofs.theory.Frequent.{IsSound, lists_frequent}
use Rattle.basket_sets.proofs.theory.Support.{frequent_items}
use Rattle.mine_supports.proofs.theory.Grouped.{of_each, size_at}
use Rattle.mine_apriori.specs.Candidates.{items_in, is_one_of, has_subsets, candidates_of, IsCandidate, CandidatesAreExact, CandidatesAreInReportOrder, CandidatesAreOneLarger}
use Rattle.mine_apriori.proofs.JoinLemmas.{ends_of}
use Rattle.mine_apriori.proofs.PruneLemmas.{Member-from_is_one_of, is_one_of-from_Member, Member-without, in_items, of_size_is}
use Rattle.mine_apriori.specs.Work.{all_candidates, is_candidate, CandidatesBySets}

items_rise : (sets : List (List ℕ)) → IsRising (items_in sets)
items_rise sets = rising-rises (flat_map (λ s. s) sets)

pub subset_of_size : (size : ℕ) (sets : List (List ℕ)) (set : List ℕ) → AreOfSize size sets → Member set (candidates_of sets) → IsSubset (suc size) (items_in sets) set × (has_subsets size sets set ≡ true)
subset_of_size size [] set sized m = absurd m
subset_of_size size (first ∷ others) set sized m =
    let sets = first ∷ others in
    let is = of_size_is size first others (size_at size sets sized first (inl refl)) in
    let k = Member-filter (has_subsets size sets) set (subsets_of_size (suc size) (items_in sets)) (subst (Member set) is m) in
    (IsSubset-from_Member (suc size) (items_in sets) set (items_rise sets) k.0, k.1)

pub candidates_are_one_larger : CandidatesAreOneLarger
candidates_are_one_larger size sets sized = of_each (λ set. length set ≡ size + 1) (candidates_of sets) (λ set m. omega (arith, (subset_of_size size sets set sized m).0.sized))

-- the subsets of one size are in report order
pub of_size_in_order : (size : ℕ) (items : List ℕ) → IsRising items → IsInReportOrder (subsets_of_size size items)
of_size_in_order size items up = grind (arith, common_steps, sorted_along, IsSubset-from_Member, same_length, of_size_sorted)

pub candidates_are_in_report_order : CandidatesAreInReportOrder
unfolding IsStrictlySortedBy
candidates_are_in_report_order [] = tt
candidates_are_in_report_order (first ∷ others) =
    let sets = first ∷ others in
    IsStrictlySortedBy-filter report_order (has_subsets (length first) sets) (subsets_of_size (suc (length first)) (items_in sets))
    (of_size_in_order (suc (length first)) (items_in sets) (items_rise sets))

-- each item of a set is in the set without its last item, or in that without the item before
pub item_is_left : (last : ℕ) (set : List ℕ) (item : ℕ) → length set ≡ suc (suc last) → Member item set → Member item (without (suc last) set) ⊎ Member item (without last set)
item_is_left last set item long m =
    let r = ends_of last set long in
    elim (Member-append item (r.front ++ r.first ∷ []) (r.second ∷ []) (subst (Member item) r.is m)) [
      | inl n ↦ inl (subst (Member item) (sym r.without_second) n)
      | inr n ↦ inr (subst (Member item) (sym r.without_first) (Member-append_right item r.front (r.second ∷ []) n))
    ]

candidate_from : (size : ℕ) (sets : List (List ℕ)) (set : List ℕ) → AreOfSize size sets → Member set (candidates_of sets) → IsCandidate size sets set
candidate_from size sets set sized m =
    let s = subset_of_size size sets set sized m in
    grind (arith, common_steps, Contains-from_Member, Member-from_is_one_of, each_of, Member-from_IsSubset, has_each)

-- a set without one of its items is in the list
pub without_is_there : (last : ℕ) (sets : List (List ℕ)) (set : List ℕ) → length set ≡ suc (suc last) → has_subsets (suc last) sets set ≡ true → (index : ℕ) → index < suc (suc last) → Member (without index set) sets
without_is_there last sets set long has index below =
    Member-from_is_one_of sets (without index set) (each_of (is_one_of sets) (subsets_of_size (suc last) set) has (without index set) (Member-without (suc last) index set long below))

pub into_candidates : (last : ℕ) (sets : List (List ℕ)) (set : List ℕ) → AreOfSize (suc last) sets → IsRising set → length set ≡ suc (suc last) → has_subsets (suc last) sets set ≡ true → Member set (candidates_of sets)
into_candidates last [] set sized up long has = without_is_there last [] set long has last (omega arith)
into_candidates last (first ∷ others) set sized up long has =
    let sets = first ∷ others in
    let there = without_is_there last sets set long has in
    let within : (item : ℕ) → Member item set → Member item (items_in sets) = λ item m.
    elim (item_is_left last set item long m) [
      | inl n ↦ in_items sets (without (suc last) set) item (there (suc last) (omega arith)) n
      | inr n ↦ in_items sets (without last set) item (there last (omega arith)) n
    ] in
    subst (Member set) (sym (of_size_is (suc last) first others (size_at (suc last) sets sized first (inl refl))))
    (Member-from_filter (has_subsets (suc last) sets) set (subsets_of_size (suc (suc last)) (items_in sets))
    (Member-from_IsSubset (suc (suc last)) (items_in sets) set (items_rise sets) (record { rises = up; sized = long; within = within })) has)

Member-from_candidate : (last : ℕ) (sets : List (List ℕ)) (set : List ℕ) → AreOfSize (suc last) sets → IsCandidate (suc last) sets set → Member set (candidates_of sets)
Member-from_candidate last sets set sized is = into_candidates last sets set sized is.rises (omega (arith, is.sized))
    (all_of (is_one_of sets) (subsets_of_size (suc last) set) (λ subset m.
    let s = IsSubset-from_Member (suc last) set subset is.rises m in
    is_one_of-from_Member sets subset (Member-from_Contains subset sets (is.subsets subset s.rises s.sized (contains_each set subset s.within)))))

pub candidates_are_exact : CandidatesAreExact
candidates_are_exact zero sets set some sized = absurd (omega arith)
candidates_are_exact (suc last) sets set some sized = (
  λ c. candidate_from (suc last) sets set sized (Member-from_Contains set (candidates_of sets) c),
  λ is. Contains-from_Member set (candidates_of sets) (Member-from_candidate last sets set sized is),
)

-- ---- what a candidate is

nonempty : (set : List ℕ) → 1 ≤ length set → set ≢ []
nonempty h1 h2 h3 = grind (arith, common_steps)

module _ (baskets : List Weighted) (minimum : Minimum) where
  abbrev passes : List ℕ → Bool
  passes set = is_frequent baskets minimum set

  pub record IsOne (set : List ℕ) : Type 0 where
    pub rises : IsRising set
    pub some : 2 ≤ length set
    pub subsets : (subset : List ℕ) → IsRising subset → length subset + 1 ≡ length set → ((item : ℕ) → Member item subset → Member item set) → passes subset ≡ true

  up : IsRising (items_of baskets)
  up = rising-rises (all_items baskets)

  pub from_all : (set : List ℕ) → Member set (all_candidates baskets minimum) → IsOne set
  from_all set m = grind (arith, common_steps, Member-filter, subset_from_Member, up, and_parts, leb-true, each_of, Member-from_IsSubset)

  -- each item of a candidate is in one of its frequent subsets
  pub in_frequent : (set : List ℕ) → IsOne set → (item : ℕ) → Member item set → (subset : List ℕ) × (passes subset ≡ true) × Member item subset
  in_frequent set one item m =
      let last = length set - 2 in
      let long : length set ≡ suc (suc last) = omega (arith, one.some) in
      elim (item_is_left last set item long m) [
        | inl n ↦ (without (suc last) set, frequent (suc last) last long (omega arith), n)
        | inr n ↦ (without last set, frequent last last long (omega arith), n)
      ]
    where
      frequent : (index last : ℕ) → length set ≡ suc (suc last) → index < suc (suc last) → passes (without index set) ≡ true
      frequent index last long below =
          let s = IsSubset-from_Member (suc last) set (without index set) one.rises (Member-without (suc last) index set long below) in
          one.subsets (without index set) s.rises (omega (arith, s.sized, long)) s.within

  pub into_all : (set : List ℕ) → IsOne set → Member set (all_candidates baskets minimum)
  into_all set one =
      let within = λ (item : ℕ) (m : Member item set). let f = in_frequent set one item m in frequent_items baskets minimum f.0 f.1 item f.2 in
      Member-from_filter (is_candidate baskets minimum) set (subsets_of (items_of baskets))
      (Member-subsets (items_of baskets) set up one.rises (nonempty set (omega (arith, one.some))) within)
      (and_from (leb 2 (length set)) (list_all passes (subsets_of_size (length set - 1) set)) (le-leb 2 (length set) one.some)
      (all_of passes (subsets_of_size (length set - 1) set) (λ subset m.
      let s = IsSubset-from_Member (length set - 1) set subset one.rises m in
      one.subsets subset s.rises (omega (arith, s.sized, one.some)) s.within)))

  pub candidates_sorted : IsStrictlySortedBy report_order (all_candidates baskets minimum)
  candidates_sorted = IsStrictlySortedBy-filter report_order (is_candidate baskets minimum) (subsets_of (items_of baskets)) (subsets_sorted (items_of baskets) up)

-- ---- the same frequent sets have the same candidates

pub candidates_by_sets : CandidatesBySets
candidates_by_sets one other minimum same =
    same_members report_order_total (all_candidates one minimum) (all_candidates other minimum) (candidates_sorted one minimum) (candidates_sorted other minimum)
    (λ set m. into_all other minimum set (across one other same set (from_all one minimum set m)))
    (λ set m. into_all one minimum set (across other one (sym same) set (from_all other minimum set m)))
  where
    across : (one other : List Weighted) → frequent_of one minimum ≡ frequent_of other minimum → (set : List ℕ) → IsOne one minimum set → IsOne other minimum set
    across one other same set is = record {
      rises = is.rises;
      some = is.some;
      subsets = λ subset rises sized within.
          let listed = subst (λ l. Contains l (counted one subset)) same ((lists_frequent one minimum).complete subset (rises, nonempty subset (omega (arith, sized, is.some))) (is.subsets subset rises sized within)) in
          (at_Member (IsSound other minimum) (counted one subset) (frequent_of other minimum)
          (recursion_from_All (IsSound other minimum) (frequent_of other minimum) (lists_frequent other minimum).sound) (Member-from_Contains (counted one subset) (frequent_of other minimum) listed)).1;
    }
