-- Pairs of ranks as sets of two.
use Rattle.std.proofs.Common.{◌≡◌, ℕ, ◌+◌, ◌<◌, Bool, true, ◌&&◌, List, [], ◌∷◌, ◌++◌, length, get_or, map, refl, sym, ap, ◌∙◌, subst, inl, inr, arith, zero, suc}
use Rattle.std.proofs.lemmas.Grind.{common_steps}
use Rattle.std.specs.Cmp.Lexicographic.{slice_cmp, bytes_decides, nat_list_cmp_total, texts_ties}
use Rattle.std.specs.Ordering.{nat_cmp, ordering_then, eq_by_cmp}
use Rattle.std.specs.List.{All, IsDistinct, filter, flat_map, range_with_len}
use Rattle.std.specs.List.Sorted.{IsPermutation, IsSorted, IsStrictlySortedBy}
use Rattle.std.specs.declared.vec.Vec.{Vec}
use Rattle.std.specs.declared.alloc.Global.{Global}
use Rattle.std.proofs.lemmas.Bool.{cases_Bool, lt-ltb}
use Rattle.std.proofs.lemmas.List.{get_or-map, length-map, map-append, map-id}
use Rattle.std.proofs.lemmas.List.Elements.{All-map}
use Rattle.std.proofs.lemmas.List.FromFn.{get_or-map-range_with_len, length-map-range_with_len}
use Rattle.std.proofs.lemmas.List.Kept.{IsStrictlySortedBy-filter}
use Rattle.std.proofs.lemmas.List.Sorted.{All-permutation, IsPermutation-map}
use Rattle.std.proofs.lemmas.Map.Keys.{IsDistinct-from_sorted}
use Rattle.std.proofs.lemmas.Simd.{map-map}
use Rattle.basket_ranks.specs.Codes.{Coding, IsCoding}
use Rattle.basket_ranks.proofs.theory.Decoding.{ranks_below}
use Rattle.basket_sets.specs.declared.weighted.Weighted.{Weighted}
use Rattle.basket_sets.specs.declared.minimum.Minimum.TheVariants.{Count}
use Rattle.basket_sets.specs.Frequent.{is_frequent}
use Rattle.basket_sets.specs.Itemset.{IsRising}
use Rattle.basket_sets.specs.Minimum.{IsLeastSupport}
use Rattle.basket_sets.specs.Subsets.{subsets_of_size}
use Rattle.basket_sets.specs.Support.{items_of, support_of, total_of}
use Rattle.basket_sets.proofs.theory.Members.{Member, Member-filter, Member-flat_map, Member-from_filter, Member-from_map, Member-into_flat_map, Member-map, map_members, sorted_map}
use Rattle.basket_sets.proofs.theory.Ranges.{range_more, Member-into_range, Member-range, filter_members, filtered_range_rises}
use Rattle.basket_sets.proofs.theory.Rising.{first_below, has-from_Member}
use Rattle.basket_sets.proofs.theory.Sorting.{sorted_is}
use Rattle.basket_sets.proofs.theory.Subsets.{of_size_sorted}
use Rattle.basket_sets.proofs.theory.Support.{support_falls}
use Rattle.mine_classes.specs.Conditional.{is_kept}
use Rattle.mine_pairs.proofs.theory.Kept.{met_alone}
use Rattle.mine_classes.proofs.theory.Lists.{distinct-append}
use Rattle.mine_pairs.specs.Pairs.{ArePairs, lists_of, pairs_of}
use Rattle.mine_apriori.specs.declared.pairs.Pair.{Pair}
use Rattle.mine_apriori.specs.Levels.{level_of}
use Rattle.mine_supports.proofs.theory.Grouped.{at_each, one_rises}
use Rattle.mine_apriori.proofs.JoinLemmas.{rises_after}
use Rattle.mine_apriori.proofs.LevelsLemmas.{from_level, into_level, items_rise}

-- ---- a least support

least_tests : (coding : Coding) (least : ℕ) → IsLeastSupport coding.minimum (total_of coding.baskets) least → (set : List ℕ)
    → is_frequent coding.baskets (Count least) set ≡ is_frequent coding.baskets coding.minimum set
least_tests coding least settles set = grind (arith, common_steps, met_alone, support_falls)

-- ---- pairs as they are given

-- a set of two ranks as a pair
abbrev pub pair_of : List Weighted → List ℕ → Pair
pair_of baskets set = record { ranks = set; count = support_of baskets set }

-- a pair as it is given with its greater rank
abbrev pub pair_with : ℕ → ℕ × ℕ → Pair
pair_with greater pair = record { ranks = pair.0 ∷ greater ∷ []; count = pair.1 }

pub parts : (set : List ℕ) → length set ≡ 2 → set ≡ get_or set 0 0 ∷ get_or set 1 0 ∷ []
parts h1 h2 = grind (arith, common_steps)

module _ (coding : Coding) where
  abbrev passes : List ℕ → Bool
  passes set = is_frequent coding.baskets coding.minimum set

  -- the ranks below a rank that are frequent together with it
  abbrev pub lesser_of : ℕ → List ℕ
  lesser_of greater = filter (λ lesser. passes (lesser ∷ greater ∷ [])) (range_with_len 0 greater)

  abbrev pub sets_with : ℕ → List (List ℕ)
  sets_with greater = map (λ lesser. lesser ∷ greater ∷ []) (lesser_of greater)

  -- the sets of two ranks below a number
  abbrev pub sets_below : ℕ → List (List ℕ)
  sets_below count = flat_map sets_with (range_with_len 0 count)

  below_more : (count : ℕ) → sets_below (suc count) ≡ sets_below count ++ sets_with count
  below_more count = grind (arith, common_steps, range_more 0 count)

  pub pairs_long : (lists : List (Vec (ℕ × ℕ) Global)) → ArePairs coding (lists_of lists) → length lists ≡ length coding.items
  pairs_long lists are = grind (arith, common_steps, length-map, length-map-range_with_len)

  pub pairs_here : (lists : List (Vec (ℕ × ℕ) Global)) (are : ArePairs coding (lists_of lists)) (greater : ℕ) (d : Vec (ℕ × ℕ) Global) → greater < length lists
      → (get_or lists greater d).items ≡ map (λ lesser. (lesser, support_of coding.baskets (lesser ∷ greater ∷ []))) (lesser_of greater)
  pairs_here lists are greater d below =
      sym (get_or-map (λ (v : Vec (ℕ × ℕ) Global). v.items) lists greater d [] below) ∙ ap (λ l. get_or l greater []) are.pairs
      ∙ get_or-map-range_with_len (pairs_of coding.baskets are.least) 0 (length coding.items) greater greater [] (omega (arith, below, pairs_long lists are)) (omega arith)
      ∙ ap (map (λ lesser. (lesser, support_of coding.baskets (lesser ∷ greater ∷ []))))
      (filter_members (is_kept coding.baskets are.least greater) (λ lesser. passes (lesser ∷ greater ∷ [])) (range_with_len 0 greater) (λ lesser m.
      (λ i. lt-ltb lesser greater (let r = Member-range 0 greater lesser m in omega (arith, r.1)) i && least_tests coding are.least are.settles (lesser ∷ greater ∷ []) i)))

  -- the sets of a greater rank more
  pub sets_more : (greater : ℕ) → map (pair_of coding.baskets) (sets_below greater) ++ map (pair_with greater) (map (λ lesser. (lesser, support_of coding.baskets (lesser ∷ greater ∷ []))) (lesser_of greater))
      ≡ map (pair_of coding.baskets) (sets_below (greater + 1))
  sets_more greater = grind (arith, common_steps, map-map, map-append, below_more)

  -- ---- the second level

  from_below : (count : ℕ) (set : List ℕ) → Member set (sets_below count) → (lesser greater : ℕ) × (lesser ∷ greater ∷ [] ≡ set) × (lesser < greater) × (greater < count) × (passes set ≡ true)
  from_below count set m = grind (arith, common_steps, Member-flat_map, Member-from_map, Member-filter, Member-range)

  into_below : (count lesser greater : ℕ) → lesser < greater → greater < count → passes (lesser ∷ greater ∷ []) ≡ true → Member (lesser ∷ greater ∷ []) (sets_below count)
  into_below count lesser greater less below h =
      Member-into_flat_map sets_with (lesser ∷ greater ∷ []) greater (range_with_len 0 count) (Member-into_range 0 count greater (omega arith) (omega arith))
      (Member-map (λ l. l ∷ greater ∷ []) lesser (lesser_of greater) (Member-from_filter (λ l. passes (l ∷ greater ∷ [])) lesser (range_with_len 0 greater) (Member-into_range 0 greater lesser (omega arith) (omega arith)) h))

  distinct_below : (count : ℕ) → IsDistinct (eq_by_cmp (slice_cmp nat_cmp)) (sets_below count)
  unfolding IsDistinct
  distinct_below zero = tt
  distinct_below (suc count) = subst (IsDistinct (eq_by_cmp (slice_cmp nat_cmp))) (sym (below_more count))
      (distinct-append (eq_by_cmp (slice_cmp nat_cmp)) (sets_below count) (sets_with count) (distinct_below count)
      (IsDistinct-from_sorted (slice_cmp nat_cmp) (sets_with count)
      (sorted_map nat_cmp (slice_cmp nat_cmp) (λ lesser. lesser ∷ count ∷ []) (lesser_of count) (λ x y less. ap (λ o. ordering_then o (slice_cmp nat_cmp (count ∷ []) (count ∷ []))) less)
      (filtered_range_rises (λ lesser. passes (lesser ∷ count ∷ [])) 0 count)))
      (λ x y m n. elim (cases_Bool (eq_by_cmp (slice_cmp nat_cmp) x y)) [
        | inl e ↦ absurd (let p = from_below count x m in let q = Member-from_map (λ lesser. lesser ∷ count ∷ []) y (lesser_of count) n in
            let same = ap (λ s. get_or s 1 0) (p.2 ∙ (bytes_decides x y).0 (texts_ties x y ∙ e) ∙ sym q.2) in omega (arith, same, p.4))
        | inr e ↦ e
      ]))

  -- the counts are the supports in any order of the pairs
  pub sorted_counts : (pairs sorted : List Pair) (sets : List (List ℕ)) → pairs ≡ map (pair_of coding.baskets) sets → IsPermutation pairs sorted
      → map (λ pair. pair.count) sorted ≡ map (support_of coding.baskets) (map (λ pair. pair.ranks) sorted)
  sorted_counts pairs sorted sets are moved =
      let all = All-permutation Counts pairs sorted moved (subst (All Counts) (sym are) (All-map Counts (pair_of coding.baskets) sets (λ k d here. refl))) in
      map_members (λ (pair : Pair). pair.count) (λ pair. support_of coding.baskets pair.ranks) sorted (at_each Counts sorted all)
      ∙ sym (map-map (support_of coding.baskets) (λ (pair : Pair). pair.ranks) sorted)
    where
      Counts : Pair → Type 0
      Counts pair = pair.count ≡ support_of coding.baskets pair.ranks

  pairs_sorted : IsStrictlySortedBy (slice_cmp nat_cmp) (level_of coding 2)
  pairs_sorted = IsStrictlySortedBy-filter (slice_cmp nat_cmp) passes (subsets_of_size 2 (items_of coding.baskets)) (of_size_sorted 2 (items_of coding.baskets) (items_rise coding))

  -- sorted, all of them are the second level
  pub sorted_ranks : IsCoding coding → (pairs sorted : List Pair) → pairs ≡ map (pair_of coding.baskets) (sets_below (length coding.items)) → IsPermutation pairs sorted
      → IsSorted (slice_cmp nat_cmp) (map (λ pair. pair.ranks) sorted) → map (λ pair. pair.ranks) sorted ≡ level_of coding 2
  sorted_ranks is pairs sorted are moved up =
      sorted_is nat_list_cmp_total below (map (λ (pair : Pair). pair.ranks) sorted) (level_of coding 2) (distinct_below count)
      (subst (λ l. IsPermutation l (map (λ (pair : Pair). pair.ranks) sorted)) (ap (map (λ (pair : Pair). pair.ranks)) are ∙ map-map (λ (pair : Pair). pair.ranks) (pair_of coding.baskets) below ∙ map-id below)
      (IsPermutation-map (λ (pair : Pair). pair.ranks) pairs sorted moved))
      up pairs_sorted
      (λ set m. let p = from_below count set m in
      into_level coding 2 set (subst IsRising p.2 (rises_after [] p.0 p.1 (one_rises p.0) p.3)) (ap length (sym p.2)) p.5)
      (λ set m. let s = from_level coding 2 set m in pair set s.0.rises s.0.sized s.1)
    where
      count : ℕ
      count = length coding.items

      below : List (List ℕ)
      below = sets_below (length coding.items)

      pair : (set : List ℕ) → IsRising set → length set ≡ 2 → passes set ≡ true → Member set below
      pair [] rises sized h = absurd (omega (arith, sized))
      pair (lesser ∷ []) rises sized h = absurd (omega (arith, sized))
      pair (lesser ∷ greater ∷ []) rises sized h =
          into_below count lesser greater (first_below lesser (greater ∷ []) rises greater (inl refl))
          (ranks_below coding is (lesser ∷ greater ∷ []) h greater (has-from_Member (lesser ∷ greater ∷ []) greater (inr (inl refl)))) h
      pair (lesser ∷ greater ∷ other ∷ rest) rises sized h = absurd (omega (arith, sized))
