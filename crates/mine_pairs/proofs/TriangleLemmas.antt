-- Counts of pairs, one basket after another.
use Rattle.std.proofs.Common.{◌≡◌, ◌≢◌, ℕ, ◌+◌, ◌<◌, ◌≤◌, Bool, true, ◌&&◌, ◌||◌, List, [], ◌∷◌, length, map, take, get_or, set, refl, sym, ap, ◌∙◌, ltb, subst, inl, inr, arith, add-zero}
use Rattle.std.proofs.lemmas.Grind.{common_steps}
use Rattle.std.proofs.Math.Bool.{or-true}
use Rattle.std.proofs.lemmas.Bool.{cases_eq, eq-eqb, lt-ltb, ltb-true}
use Rattle.std.proofs.lemmas.List.{get_or-replicate, get_or-set_other, get_or-set_same, length-replicate}
use Rattle.std.proofs.lemmas.List.FromFn.{get_or-map-range_with_len, length-map-range_with_len}
use Rattle.std.proofs.lemmas.List.Sums.{sum_by_more_le}
use Rattle.std.specs.List.{filter, range_with_len}
use Rattle.basket_sets.specs.declared.weighted.Weighted.{Weighted}
use Rattle.basket_sets.specs.Counts.{AllBelow}
use Rattle.basket_sets.specs.Database.{MOST_WEIGHT}
use Rattle.basket_sets.specs.Itemset.{IsRising, has}
use Rattle.basket_sets.specs.Support.{total_of, weight_at}
use Rattle.basket_sets.proofs.theory.Members.{Member, Member-filter, Member-from_filter}
use Rattle.basket_sets.proofs.theory.Ranges.{filter_rises}
use Rattle.basket_sets.proofs.theory.Rising.{Member-from_has, has-from_Member, has_more, not_before, rising_distinct, same_test}
use Rattle.basket_sets.proofs.theory.Support.{support_falls}
use Rattle.mine_pairs.specs.Pairs.{pairs_of}
use Rattle.mine_pairs.specs.Sums.{WithBasket, is_met}
use Rattle.mine_pairs.specs.Triangle.{HaveCounts, WithPairs, row_at, zeros}
use Rattle.mine_pairs.proofs.theory.PairSums.{sums_are_pairs}
use Rattle.mine_pairs.proofs.RunStepLemmas.{front_is}

-- ---- the ranks before one of a basket

module _ (ranks : List ℕ) (index : ℕ) (up : IsRising ranks) (here : index < length ranks) where
  abbrev rank : ℕ
  rank = get_or ranks index 0

  -- of the ranks below it the basket has those that stand before it
  pub front_has : (lesser : ℕ) → lesser < rank → has (take index ranks) lesser ≡ has ranks lesser
  front_has lesser less =
      let below : ℕ → Bool = λ other. ltb other rank in
      let front = front_is ranks index up here in
      grind (arith, common_steps, same_test, has-from_Member, Member-filter, Member, Member-from_has, Member-from_filter, lt-ltb)

  pub before_rises : IsRising (take index ranks)
  before_rises = subst IsRising (front_is ranks index up here) (filter_rises (λ other. ltb other rank) ranks up)

  pub before_all_below : AllBelow rank (take index ranks)
  before_all_below lesser h =
      let m = subst (Member lesser) (sym (front_is ranks index up here)) (Member-from_has (take index ranks) lesser h) in
      ltb-true lesser rank (Member-filter (λ other. ltb other rank) lesser ranks m).1

-- ---- the rows, one rank of a basket after another

module _ (first weight : ℕ) (ranks : List ℕ) (old now : List (List ℕ)) where
  pub other_greater : (one other : List ℕ) → ((k : ℕ) → k < length old → has one (first + k) ≡ has other (first + k)) → WithPairs first one ranks weight old now → WithPairs first other ranks weight old now
  other_greater one other same with = grind (arith, common_steps)

  module _ (index k : ℕ) (up : IsRising ranks) (here : index < length ranks) (within : k < length old) (is : first + k ≡ get_or ranks index 0) (with : WithPairs first (take index ranks) ranks weight old now) where
    -- the row of the next rank is as it was
    pub as_was : (lesser : ℕ) → lesser < length (row_at old k) → get_or (row_at now k) lesser 0 ≡ get_or (row_at old k) lesser 0
    as_was lesser below = grind (arith, common_steps, not_before, rising_distinct)

    pub row_more : (row : List ℕ) → length now ≡ length old → length (row_at old k) ≡ first + k → length row ≡ length (row_at now k) → WithBasket (take index ranks) weight (row_at now k) row
        → WithPairs first (take (index + 1) ranks) ranks weight old (set now k row)
    row_more row same wide long added = record {
      long = λ j below. elim (cases_eq j k) [
        | inl e ↦ subst (λ n. length (row_at (set now k row) n) ≡ length (row_at old n)) (sym e) (ap length (get_or-set_same now k row [] (omega arith)) ∙ long ∙ with.long k within)
        | inr differ ↦ ap length (get_or-set_other now k j row [] differ) ∙ with.long j below
      ];
      added = λ j below. elim (cases_eq j k) [
        | inl e ↦ grind (arith, common_steps, get_or-set_same, whole, there)
        | inr differ ↦ grind (arith, common_steps)
      ];
    }
      where
        there : has (take (index + 1) ranks) (first + k) ≡ true
        there = has_more ranks index (first + k) here ∙ ap (λ b. has (take index ranks) (first + k) || b) (eq-eqb (get_or ranks index 0) (first + k) (sym is)) ∙ or-true (has (take index ranks) (first + k))

        whole : WithBasket ranks weight (row_at old k) row
        whole lesser below = grind (arith, common_steps, as_was, front_has)

pub none_added : (first weight : ℕ) (ranks : List ℕ) (rows : List (List ℕ)) → WithPairs first [] ranks weight rows rows
none_added first weight ranks rows = record { long = λ k below. refl; added = λ k below lesser less. sym (add-zero (get_or (row_at rows k) lesser 0)) }

-- ---- the rows, one basket after another

pub zeros_count : (first count : ℕ) → HaveCounts [] first (map zeros (range_with_len first count))
zeros_count first count = grind (arith, common_steps, length-replicate, get_or-replicate, get_or-map-range_with_len, length-map-range_with_len)

module _ (baskets : List Weighted) (i : ℕ) (d : Weighted) (first : ℕ) (now : List (List ℕ)) (here : i < length baskets) (have : HaveCounts (take i baskets) first now) where
  pub counts_light : total_of baskets ≤ MOST_WEIGHT → (k lesser : ℕ) → k < length now → lesser < first + k → get_or (row_at now k) lesser 0 + (get_or baskets i d).weight ≤ MOST_WEIGHT
  counts_light light k lesser within less = grind (arith, common_steps, support_falls (take i baskets) (lesser ∷ (first + k) ∷ []) [] refl, sum_by_more_le (weight_at []) baskets i d here)

  pub counts_more : (new : List (List ℕ)) → length new ≡ length now → WithPairs first (get_or baskets i d).basket (get_or baskets i d).basket (get_or baskets i d).weight now new
      → HaveCounts (take (i + 1) baskets) first new
  counts_more new same with = grind (arith, common_steps)

-- ---- the pairs of a rank

pub row_pairs : (baskets : List Weighted) (least first : ℕ) (rows : List (List ℕ)) (k : ℕ) (row : List ℕ) → HaveCounts baskets first rows → k < length rows → row ≡ row_at rows k
    → map (λ other. (other, get_or row other 0)) (filter (λ other. is_met least (get_or row other 0)) (range_with_len 0 (length row))) ≡ pairs_of baskets least (first + k)
row_pairs baskets least first rows k row have within is = grind (arith, common_steps, sums_are_pairs)
