-- The runs of each rank, basket by basket.
use Rattle.std.proofs.Common.{◌≡◌, ℕ, ◌+◌, ◌<◌, ◌≤◌, true, false, List, [], ◌∷◌, ◌++◌, length, take, get_or, cond, ltb, refl, sym, ap, ◌∙◌, subst, inl, inr, arith}
use Rattle.std.proofs.lemmas.Grind.{common_steps}
use Rattle.std.specs.Prelude.{All}
use Rattle.std.specs.List.{filter, slice_range, sum_by}
use Rattle.std.specs.Ordering.{nat_cmp}
use Rattle.std.proofs.lemmas.Bool.{cases_Bool, ltb-true, true≢false}
use Rattle.std.proofs.lemmas.List.{get_or_default, get_or-map, length-map, map-append, take_more}
use Rattle.std.proofs.lemmas.List.Kept.{IsStrictlySortedBy-filter}
use Rattle.std.proofs.lemmas.List.Sums.{sum_by_more_le}
use Rattle.basket_sets.specs.declared.weighted.Weighted.{Weighted}
use Rattle.basket_sets.specs.Database.{MOST_WEIGHT, weighted}
use Rattle.basket_sets.specs.Itemset.{has}
use Rattle.basket_sets.specs.Support.{total_of, weight_at}
use Rattle.basket_sets.proofs.theory.Members.{Member-filter, Contains-from_Member}
use Rattle.basket_sets.proofs.theory.Rising.{Member-from_has, has-from_Member}
use Rattle.basket_sets.proofs.theory.Support.{support_falls}
use Rattle.basket_sets.proofs.theory.Tests.{Member-at}
use Rattle.mine_baskets.specs.declared.span.Span.{Span}
use Rattle.mine_baskets.specs.ListBaskets.{IsRankBasket, repeats_last}
use Rattle.mine_pairs.specs.Runs.{AreRunsOf, HaveRuns, with_run}
use Rattle.mine_baskets.specs.Span.{span_front}
use Rattle.mine_baskets.specs.Span.{IsWithin, basket_at, baskets_at}
use Rattle.mine_pairs.proofs.theory.Runs.{length-range}
use Rattle.mine_pairs.proofs.theory.Sums.{paths_weigh, weights_of}
use Rattle.mine_pairs.proofs.RunStepLemmas.{below_without, front_is, front_range, heavier_are, heavier_baskets, pushed_are, pushed_repeats, raised_repeats}

-- ---- one basket more

module _ (ranks : List ℕ) (count : ℕ) (basket : Span) (inside : IsWithin (length ranks) basket) (is : IsRankBasket count (basket_at ranks basket)) where
  abbrev path : List ℕ
  path = slice_range ranks basket.start basket.end

  ends : (k : ℕ) → k < length path → basket.start + k ≤ basket.end
  ends k here = omega (arith, here, length-range ranks basket inside)

  run_is : (k : ℕ) → k < length path → basket_at ranks (span_front basket k) ≡ weighted (filter (λ other. ltb other (get_or path k 0)) path) basket.weight
  run_is k here = ap (λ l. weighted l basket.weight) (front_range ranks basket.start basket.end k (ends k here) ∙ sym (front_is path k is.rises here))

  run_rank : (k : ℕ) → k < length path → IsRankBasket (get_or path k 0) (basket_at ranks (span_front basket k))
  run_rank k here = subst (IsRankBasket (get_or path k 0)) (sym (run_is k here)) (record {
    rises = IsStrictlySortedBy-filter nat_cmp (λ other. ltb other (get_or path k 0)) path is.rises;
    below = λ item h. ltb-true item (get_or path k 0)
        (Member-filter (λ other. ltb other (get_or path k 0)) item path (Member-from_has (filter (λ other. ltb other (get_or path k 0)) path) item h)).1;
    weighs = is.weighs;
  })

  run_inside : (k : ℕ) → k < length path → IsWithin (length ranks) (span_front basket k)
  run_inside k here = grind (arith, common_steps)

  module _ (done : List Weighted) (shared first : ℕ) (old new : List (List Span)) (have : HaveRuns path basket shared (length path) first old new)
      (are : (n : ℕ) → n < length old → AreRunsOf ranks done (first + n) (get_or old n []))
      (again : (k n : ℕ) → k < shared → k < length path → n < length old → get_or path k 0 ≡ first + n → repeats_last (baskets_at ranks (get_or old n [])) (take k path) ≡ true) where
    front_at : (k : ℕ) → k < length path → take k path ≡ (basket_at ranks (span_front basket k)).basket
    front_at k here = sym (front_range ranks basket.start basket.end k (ends k here))

    with_are : (k n : ℕ) → k < length path → n < length old → get_or path k 0 ≡ first + n → AreRunsOf ranks (done ++ basket_at ranks basket ∷ []) (get_or path k 0) (get_or new n [])
    with_are k n here inside at = subst (AreRunsOf ranks (done ++ basket_at ranks basket ∷ []) (get_or path k 0)) (sym (have.on k n here inside at)) (elim (cases_Bool (ltb k shared)) [
      | inl e ↦ subst (AreRunsOf ranks (done ++ basket_at ranks basket ∷ []) (get_or path k 0)) (ap (λ b. with_run b (span_front basket k) runs) (sym e))
          (heavier_are ranks (get_or path k 0) done (basket_at ranks basket) (span_front basket k) runs there (run_rank k here) (run_is k here) (run_inside k here) before
          (subst (λ l. repeats_last (baskets_at ranks runs) l ≡ true) (front_at k here) (again k n (ltb-true k shared e) here inside at)))
      | inr e ↦ subst (AreRunsOf ranks (done ++ basket_at ranks basket ∷ []) (get_or path k 0)) (ap (λ b. with_run b (span_front basket k) runs) (sym e))
          (pushed_are ranks (get_or path k 0) done (basket_at ranks basket) (span_front basket k) runs there (run_rank k here) (run_is k here) (run_inside k here) before)
    ])
      where
        runs : List Span
        runs = get_or old n []

        before : AreRunsOf ranks done (get_or path k 0) runs
        before = subst (λ r. AreRunsOf ranks done r runs) (sym at) (are n inside)

        there : has path (get_or path k 0) ≡ true
        there = has-from_Member path (get_or path k 0) (Member-at path k here)

    without_are : (n : ℕ) → n < length old → has path (first + n) ≡ false → AreRunsOf ranks (done ++ basket_at ranks basket ∷ []) (first + n) (get_or new n [])
    without_are n inside none =
        let same = have.off n (λ k here e. true≢false (sym (subst (λ r. has path r ≡ true) e (has-from_Member path (get_or path k 0) (Member-at path k here))) ∙ none)) in
        subst (AreRunsOf ranks (done ++ basket_at ranks basket ∷ []) (first + n)) (sym same) (record {
          within = (are n inside).within;
          each = (are n inside).each;
          weights = λ test. ap (λ l. sum_by (λ (p : Weighted). cond (test p.basket) p.weight 0) l) (below_without (first + n) (basket_at ranks basket) done none) ∙ (are n inside).weights test;
        })

    pub next_are : (n : ℕ) → n < length old → AreRunsOf ranks (done ++ basket_at ranks basket ∷ []) (first + n) (get_or new n [])
    next_are n inside = elim (cases_Bool (has path (first + n))) [
      | inl e ↦
          (let c = Contains-from_Member (first + n) path (Member-from_has path (first + n) e) in
          let at = get_or_default path c.0 0 (first + n) c.1 ∙ c.2 in
          subst (λ r. AreRunsOf ranks (done ++ basket_at ranks basket ∷ []) r (get_or new n [])) at (with_are c.0 n c.1 inside at))
      | inr e ↦ without_are n inside e
    ]

    pub next_again : (k n : ℕ) → k < length path → n < length old → get_or path k 0 ≡ first + n → repeats_last (baskets_at ranks (get_or new n [])) (take k path) ≡ true
    next_again k n here inside at = ap (λ l. repeats_last (baskets_at ranks l) (take k path)) (have.on k n here inside at) ∙ (elim (cases_Bool (ltb k shared)) [
      | inl e ↦ ap (λ b. repeats_last (baskets_at ranks (with_run b (span_front basket k) runs)) (take k path)) e
          ∙ ap (λ l. repeats_last l (take k path)) (heavier_baskets ranks basket.weight runs)
          ∙ raised_repeats basket.weight (baskets_at ranks runs) (take k path) ∙ again k n (ltb-true k shared e) here inside at
      | inr e ↦ ap (λ b. repeats_last (baskets_at ranks (with_run b (span_front basket k) runs)) (take k path)) e
          ∙ ap (λ l. repeats_last l (take k path)) (map-append (basket_at ranks) runs (span_front basket k ∷ []))
          ∙ ap (repeats_last (baskets_at ranks runs ++ basket_at ranks (span_front basket k) ∷ [])) (front_at k here)
          ∙ pushed_repeats (baskets_at ranks runs) (basket_at ranks (span_front basket k))
    ])
      where
        runs : List Span
        runs = get_or old n []

-- ---- the weights of runs

pub runs_light : (ranks : List ℕ) (baskets : List Weighted) (i : ℕ) (d : Weighted) (rank : ℕ) (runs : List Span) → i < length baskets → total_of baskets ≤ MOST_WEIGHT
    → AreRunsOf ranks (take i baskets) rank runs → sum_by (λ (run : Span). run.weight) runs + (get_or baskets i d).weight ≤ MOST_WEIGHT
runs_light ranks baskets i d rank runs here light are =
    let spans = weights_of ranks runs in
    let weigh = paths_weigh (take i baskets) rank (baskets_at ranks runs) are.weights in
    let falls = support_falls (take i baskets) (rank ∷ []) [] refl in
    let more = sum_by_more_le (weight_at []) baskets i d here in
    omega arith

-- ---- the loop over baskets

pub rank_basket_at : (ranks : List ℕ) (count : ℕ) (spans : List Span) (i : ℕ) (d : Span) → All (IsRankBasket count) (baskets_at ranks spans) → i < length spans
    → IsRankBasket count (basket_at ranks (get_or spans i d))
rank_basket_at ranks count spans i d all here = grind (arith, common_steps, get_or-map (basket_at ranks) spans i d (basket_at ranks d) here, length-map spans (basket_at ranks))

-- baskets that begin alike have runs alike there
pub shared_again : (ranks : List ℕ) (first : ℕ) (of : List (List Span)) (last path : List ℕ) (shared : ℕ) → shared ≤ length last → take shared last ≡ take shared path
    → ((k n : ℕ) → k < length last → n < length of → get_or last k 0 ≡ first + n → repeats_last (baskets_at ranks (get_or of n [])) (take k last) ≡ true)
    → (k n : ℕ) → k < shared → n < length of → get_or path k 0 ≡ first + n → repeats_last (baskets_at ranks (get_or of n [])) (take k path) ≡ true
shared_again ranks first of last path shared within same again k n here inside at = grind (arith, common_steps)

pub basket_more : (ranks : List ℕ) (spans : List Span) (i : ℕ) (d : Span) → i < length spans
    → take i (baskets_at ranks spans) ++ basket_at ranks (get_or spans i d) ∷ [] ≡ take (i + 1) (baskets_at ranks spans)
basket_more ranks spans i d here =
    ap (λ p. take i (baskets_at ranks spans) ++ p ∷ []) (sym (get_or-map (basket_at ranks) spans i d (basket_at ranks d) here))
    ∙ sym (take_more (baskets_at ranks spans) i (basket_at ranks d) (omega (arith, length-map spans (basket_at ranks))))
