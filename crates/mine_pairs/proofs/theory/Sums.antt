-- Sums by rank as weights, and the supports of pairs.
use Rattle.std.proofs.Common.{◌≡◌, ℕ, ◌+◌, ◌<◌, ◌≤◌, Bool, true, ◌&&◌, List, [], ◌∷◌, length, take, get_or, map, cond, leb, ltb, refl, sym, ap, ◌∙◌, inl, inr, arith}
use Rattle.std.proofs.lemmas.Grind.{common_steps}
use Rattle.std.specs.List.{filter, range_with_len, sum_by}
use Rattle.std.proofs.lemmas.Bool.{and_parts, leb-true, ltb-true}
use Rattle.std.proofs.lemmas.List.Sums.{sum_by-le-sum_by, sum_by_more_le}
use Rattle.basket_sets.specs.declared.weighted.Weighted.{Weighted}
use Rattle.basket_sets.specs.declared.minimum.Minimum.TheVariants.{Count}
use Rattle.basket_sets.specs.Database.{MOST_WEIGHT}
use Rattle.basket_sets.specs.Frequent.{is_frequent}
use Rattle.basket_sets.specs.Itemset.{contains, has, rising}
use Rattle.basket_sets.specs.Support.{support_of, total_of, weight_at}
use Rattle.basket_sets.proofs.theory.Members.{Member, Member-filter, Member-from_filter}
use Rattle.basket_sets.proofs.theory.Rising.{Member-from_has, has-from_Member, Member-rising, Member-into_rising, rising-rises, same_rising}
use Rattle.basket_sets.proofs.theory.Support.{support_falls}
use Rattle.basket_sets.proofs.theory.Ranges.{Member-into_range, Member-range, filtered_range_rises}
use Rattle.mine_baskets.specs.declared.span.Span.{Span}
use Rattle.mine_classes.specs.Conditional.{is_kept}
use Rattle.mine_baskets.specs.ListBaskets.{HaveSameWeights}
use Rattle.mine_pairs.specs.Sums.{AreSums, is_met, ranks_met, weight_with}
use Rattle.mine_pairs.specs.Pairs.{kept_ranks, pairs_of}
use Rattle.mine_pairs.specs.Runs.{below}
use Rattle.mine_baskets.specs.Span.{baskets_at}
use Rattle.mine_classes.proofs.theory.Conditional.{kept_support}

-- ---- sums

abbrev pub weigh : ℕ → Weighted → ℕ
weigh rank index = cond (has index.basket rank) index.weight 0

at_most_weight : (b : Bool) (n : ℕ) → cond b n 0 ≤ n
at_most_weight h1 h2 = grind (arith, common_steps)

pub sum_light : (baskets : List Weighted) (i rank : ℕ) (d : Weighted) → i < length baskets → total_of baskets ≤ MOST_WEIGHT → weight_with rank (take i baskets) + (get_or baskets i d).weight ≤ MOST_WEIGHT
sum_light baskets i rank d here light =
    let at_most = sum_by-le-sum_by (weigh rank) (weight_at []) (take i baskets) (λ index. at_most_weight (has index.basket rank) index.weight) in
    let more = sum_by_more_le (weight_at []) baskets i d here in
    omega arith

pub sum_more : (baskets : List Weighted) (i rank : ℕ) (d : Weighted) → i < length baskets
    → weight_with rank (take (i + 1) baskets) ≡ weight_with rank (take i baskets) + weigh rank (get_or baskets i d)
sum_more baskets i rank d here = grind (arith, common_steps)

-- ---- lists of members

pub map_members : {K J : Type 0} (f g : K → J) (xs : List K) → ((x : K) → Member x xs → f x ≡ g x) → map f xs ≡ map g xs
map_members f g [] same = refl
map_members f g (x ∷ xs) same = ap (λ y. y ∷ map f xs) (same x (inl refl)) ∙ ap (λ l. g x ∷ l) (map_members f g xs (λ y m. same y (inr m)))

-- ---- the ranks that are met

one_of_met : (least sum : ℕ) → is_met least sum ≡ true → 1 ≤ sum
one_of_met least sum h = leb-true 1 sum (and_parts (leb 1 sum) (leb least sum) h).0

pub met_is : (count least : ℕ) (sums found : List ℕ) (baskets : List Weighted) → AreSums count sums found → ((rank : ℕ) → rank < count → get_or sums rank 0 ≡ weight_with rank baskets)
    → map (λ rank. (rank, get_or sums rank 0)) (rising (filter (λ rank. is_met least (get_or sums rank 0)) found)) ≡ ranks_met count least baskets
met_is count least sums found baskets are added =
    map_members (λ rank. (rank, get_or sums rank 0)) (λ rank. (rank, weight_with rank baskets)) (rising (filter summed found))
    (λ rank m. λ i. (rank, added rank (below_count rank m) i))
    ∙ ap (map (λ rank. (rank, weight_with rank baskets))) (same_rising (rising (filter summed found)) (filter weighed (range_with_len 0 count)) (rising-rises (filter summed found)) (filtered_range_rises weighed 0 count) into back)
  where
    summed : ℕ → Bool
    summed rank = is_met least (get_or sums rank 0)

    weighed : ℕ → Bool
    weighed rank = is_met least (weight_with rank baskets)

    below_count : (rank : ℕ) → Member rank (rising (filter summed found)) → rank < count
    below_count rank m = are.below rank (has-from_Member found rank (Member-filter summed rank found (Member-rising (filter summed found) rank m)).0)

    into : (rank : ℕ) → Member rank (rising (filter summed found)) → Member rank (filter weighed (range_with_len 0 count))
    into rank m =
        let here = below_count rank m in
        Member-from_filter weighed rank (range_with_len 0 count) (Member-into_range 0 count rank (omega arith) (omega arith))
        (ap (is_met least) (sym (added rank here)) ∙ (Member-filter summed rank found (Member-rising (filter summed found) rank m)).1)

    back : (rank : ℕ) → Member rank (filter weighed (range_with_len 0 count)) → Member rank (rising (filter summed found))
    back rank m =
        let p = Member-filter weighed rank (range_with_len 0 count) m in
        let r = Member-range 0 count rank p.0 in
        let high = r.1 in
        let here : rank < count = omega arith in
        let test = ap (is_met least) (added rank here) ∙ p.1 in
        Member-into_rising (filter summed found) rank
        (Member-from_filter summed rank found (Member-from_has found rank (are.listed rank (let one = one_of_met least (get_or sums rank 0) test in omega arith))) test)

-- ---- two sums over the same baskets

same_sums : (f g : Weighted → ℕ) (receipts : List Weighted) → ((index : Weighted) → f index ≡ g index) → sum_by f receipts ≡ sum_by g receipts
same_sums f g [] same = refl
same_sums f g (index ∷ receipts) same = grind (arith, common_steps, same_sums f g receipts same)

and_every : (b : Bool) → (b && true) ≡ b
and_every h1 = grind (arith, common_steps)

-- ---- the pairs of a rank

pub weights_of : (ranks : List ℕ) (runs : List Span) → total_of (baskets_at ranks runs) ≡ sum_by (λ (run : Span). run.weight) runs
weights_of ranks [] = refl
weights_of ranks (run ∷ runs) = grind (arith, common_steps, weights_of ranks runs)

module _ (baskets : List Weighted) (rank : ℕ) (paths : List Weighted) (same : HaveSameWeights (below rank baskets) paths) where
  pair_weight : (other : ℕ) → weight_with other paths ≡ cond (ltb other rank) (support_of baskets (other ∷ rank ∷ [])) 0
  pair_weight other =
      sym (same (λ basket. has basket other))
      ∙ same_sums (weigh other) (weight_at (other ∷ [])) (below rank baskets) (λ index. ap (λ b. cond b index.weight 0) (sym (and_every (has index.basket other))))
      ∙ kept_support (λ o. ltb o rank) rank (other ∷ []) baskets
      ∙ ap (λ b. cond b (support_of baskets (other ∷ rank ∷ [])) 0) (and_every (ltb other rank))

  met_is_kept : (least other : ℕ) → is_met least (weight_with other paths) ≡ is_kept baskets least rank other
  met_is_kept least other = grind (arith, common_steps, pair_weight other)

  pub pairs_are : (count least : ℕ) → rank ≤ count → ranks_met count least paths ≡ pairs_of baskets least rank
  pairs_are count least within =
      map_members (λ other. (other, weight_with other paths)) (λ other. (other, support_of baskets (other ∷ rank ∷ []))) (filter met (range_with_len 0 count))
      (λ other m. λ i. (other, (pair_weight other ∙ ap (λ b. cond b (support_of baskets (other ∷ rank ∷ [])) 0) (lower other (Member-filter met other (range_with_len 0 count) m).1)) i))
      ∙ ap (map (λ other. (other, support_of baskets (other ∷ rank ∷ []))))
      (same_rising (filter met (range_with_len 0 count)) (kept_ranks baskets least rank) (filtered_range_rises met 0 count) (filtered_range_rises (is_kept baskets least rank) 0 rank) into back)
    where
      met : ℕ → Bool
      met other = is_met least (weight_with other paths)

      lower : (other : ℕ) → met other ≡ true → ltb other rank ≡ true
      lower other h = (and_parts (ltb other rank) (is_frequent baskets (Count least) (other ∷ rank ∷ [])) (sym (met_is_kept least other) ∙ h)).0

      into : (other : ℕ) → Member other (filter met (range_with_len 0 count)) → Member other (kept_ranks baskets least rank)
      into other m =
          let p = Member-filter met other (range_with_len 0 count) m in
          let less = ltb-true other rank (lower other p.1) in
          Member-from_filter (is_kept baskets least rank) other (range_with_len 0 rank) (Member-into_range 0 rank other (omega arith) (omega arith)) (sym (met_is_kept least other) ∙ p.1)

      back : (other : ℕ) → Member other (kept_ranks baskets least rank) → Member other (filter met (range_with_len 0 count))
      back other m =
          let p = Member-filter (is_kept baskets least rank) other (range_with_len 0 rank) m in
          let r = Member-range 0 rank other p.0 in
          let high = r.1 in
          Member-from_filter met other (range_with_len 0 count) (Member-into_range 0 count other (omega arith) (omega arith)) (met_is_kept least other ∙ p.1)

  -- the weights of a rank's paths add up to its support
  pub paths_weigh : total_of paths ≡ support_of baskets (rank ∷ [])
  paths_weigh = sym (same (λ basket. contains basket [])) ∙ kept_support (λ o. ltb o rank) rank [] baskets

  pub paths_light : total_of baskets ≤ MOST_WEIGHT → total_of paths ≤ MOST_WEIGHT
  paths_light light = omega (arith, light, paths_weigh, support_falls baskets (rank ∷ []) [] refl)
