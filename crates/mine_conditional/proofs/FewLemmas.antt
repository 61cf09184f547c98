-- The conditional database of a rank that keeps at most one other rank.
use Rattle.std.proofs.Common.{◌≡◌, ◌⊎◌, ℕ, ◌+◌, ◌≤◌, Bool, true, false, ◌&&◌, List, [], ◌∷◌, ◌++◌, length, map, cond, refl, sym, ap, ◌∙◌, subst, inl, inr, arith}
use Rattle.std.proofs.lemmas.Grind.{common_steps}
use Rattle.std.specs.List.{AllByRecursion, filter, flat_map, range_with_len}
use Rattle.std.specs.Ordering.{nat_cmp}
use Rattle.std.proofs.lemmas.List.Kept.{IsStrictlySortedBy-filter}
use Rattle.std.proofs.lemmas.List.Sums.{sum_by-cons}
use Rattle.basket_sets.proofs.theory.Tests.{cond_sum, same_cond}
use Rattle.basket_ranks.specs.Codes.{decoded, decoded_basket}
use Rattle.basket_sets.specs.declared.weighted.Weighted.{Weighted}
use Rattle.basket_sets.specs.Database.{weighted}
use Rattle.basket_sets.specs.Itemset.{IsRising, contains, has}
use Rattle.basket_sets.specs.Support.{support_of}
use Rattle.basket_sets.proofs.theory.Members.{Member, Member-filter}
use Rattle.basket_sets.proofs.theory.Rising.{contains_each, first_below}
use Rattle.basket_sets.proofs.theory.Support.{support-cons, support_falls}
use Rattle.mine_baskets.specs.ListBaskets.{HaveSameWeights, weight_where}
use Rattle.mine_baskets.proofs.theory.Weights.{changed_weight}
use Rattle.mine_classes.specs.Conditional.{conditional, is_kept, kept_basket}
use Rattle.mine_pairs.specs.Pairs.{kept_ranks, pairs_of}
use Rattle.mine_conditional.specs.Few.{first_support}
use Rattle.mine_classes.proofs.theory.Conditional.{conditional_supports}
use Rattle.mine_pairs.proofs.theory.Kept.{Member-kept}

module _ (keeps : ℕ → Bool) (x rank : ℕ) (only : (y : ℕ) → keeps y ≡ true → y ≡ x) where
  -- a rising basket is kept to one rank or to none
  kept_to : (basket : List ℕ) → IsRising basket → (filter keeps basket ≡ x ∷ []) ⊎ (filter keeps basket ≡ [])
  kept_to basket up = at (filter keeps basket) (IsStrictlySortedBy-filter nat_cmp keeps basket up) (λ z m. only z (Member-filter keeps z basket m).1)
    where
      at : (kept : List ℕ) → IsRising kept → ((z : ℕ) → Member z kept → z ≡ x) → (kept ≡ x ∷ []) ⊎ (kept ≡ [])
      at [] up same = inr refl
      at (y ∷ []) up same = inl (ap (λ z. z ∷ []) (same y (inl refl)))
      at (y ∷ z ∷ kept) up same =
          let less = first_below y (z ∷ kept) up z (inl refl) in
          let first = same y (inl refl) in
          let second = same z (inr (inl refl)) in
          absurd (omega (arith, less, first, second))

  abbrev receipts : List Weighted → List Weighted
  receipts baskets = flat_map (kept_basket keeps rank) baskets

  -- what they weigh under a test, by the supports of that rank and of none
  pub record WeighsFew (test : List ℕ → Bool) (baskets : List Weighted) : Type 0 where
    pub rest : ℕ
    pub all : support_of baskets (x ∷ []) + rest ≡ support_of baskets []
    pub weight : weight_where test baskets ≡ cond (test (x ∷ [])) (support_of baskets (x ∷ [])) 0 + cond (test []) rest 0

  pub weighs_few : (test : List ℕ → Bool) (baskets : List Weighted) → AllByRecursion (λ (index : Weighted). IsRising index.basket) baskets → WeighsFew test (receipts baskets)
  weighs_few test [] up = record { rest = 0; all = refl; weight = omega (arith, same_cond (test (x ∷ [])) 0, same_cond (test []) 0) }
  weighs_few test (index ∷ baskets) up = at (has index.basket rank) (weighs_few test baskets up.1)
    where
      -- its own weight, with the rank or without it
      own_weight : (b : Bool) (basket : List ℕ) → basket ≡ cond b (x ∷ []) []
          → cond (test basket) index.weight 0 ≡ cond (test (x ∷ [])) (cond b index.weight 0) 0 + cond (test []) (cond b 0 index.weight) 0
      own_weight h1 h2 h3 = grind (arith, common_steps)

      contained : (b : Bool) (basket : List ℕ) → basket ≡ cond b (x ∷ []) [] → contains basket (x ∷ []) ≡ b
      contained h1 h2 h3 = grind (arith, common_steps)

      parts : (b : Bool) (weight : ℕ) → cond b weight 0 + cond b 0 weight ≡ weight
      parts h1 h2 = grind (arith, common_steps)

      more : (b : Bool) (basket : List ℕ) → basket ≡ cond b (x ∷ []) [] → WeighsFew test (receipts baskets) → WeighsFew test (weighted basket index.weight ∷ receipts baskets)
      more b basket is few =
          let others = receipts baskets in
          let own = weighted basket index.weight in
          let with_one = support-cons own others (x ∷ []) in
          let with_none = support-cons own others [] in
          let here = ap (λ c. cond c index.weight 0) (contained b basket is) in
          let together : cond b index.weight 0 + support_of others (x ∷ []) ≡ support_of (own ∷ others) (x ∷ []) = omega (arith, with_one, here) in
          let with = cond_sum (test (x ∷ [])) (cond b index.weight 0) (support_of others (x ∷ [])) ∙ ap (λ n. cond (test (x ∷ [])) n 0) together in
          let without = cond_sum (test []) (cond b 0 index.weight) few.rest in
          let cons = sum_by-cons (λ (p : Weighted). cond (test p.basket) p.weight 0) own others in
          let own_parts = own_weight b basket is in
          let both = parts b index.weight in
          record {
            rest = cond b 0 index.weight + few.rest;
            all = omega (arith, with_none, together, few.all, both);
            weight = omega (arith, cons, own_parts, few.weight, with, without);
          }

      at : (h : Bool) → WeighsFew test (receipts baskets) → WeighsFew test (cond h (weighted (filter keeps index.basket) index.weight ∷ []) [] ++ receipts baskets)
      at true few = elim (kept_to index.basket up.0) [ inl is ↦ more true (filter keeps index.basket) is few | inr is ↦ more false (filter keeps index.basket) is few ]
      at false few = few

module _ (baskets : List Weighted) (least rank : ℕ) where
  abbrev kept : List ℕ
  kept = kept_ranks baskets least rank

  -- what weighs as the conditional database: the baskets with the one rank and those without it
  weighs_so : AllByRecursion (λ (index : Weighted). IsRising index.basket) baskets → (x with without : ℕ) → ((y : ℕ) → is_kept baskets least rank y ≡ true → y ≡ x) → support_of (conditional least baskets rank) (x ∷ []) ≡ with
      → with + without ≡ support_of baskets (rank ∷ []) → (test : List ℕ → Bool) → weight_where test (conditional least baskets rank) ≡ cond (test (x ∷ [])) with 0 + cond (test []) without 0
  weighs_so up x with without only paired all test = grind (arith, common_steps, weighs_few (is_kept baskets least rank) x rank only test baskets up, conditional_supports baskets least rank [])

  -- the supports of pairs
  abbrev supports : List ℕ → List (ℕ × ℕ)
  supports ranks = map (λ other. (other, support_of baskets (other ∷ rank ∷ []))) ranks

  pub first_falls : first_support (pairs_of baskets least rank) ≤ support_of baskets (rank ∷ [])
  first_falls = at kept
    where
      at : (ranks : List ℕ) → first_support (supports ranks) ≤ support_of baskets (rank ∷ [])
      at [] = omega arith
      at (x ∷ ranks) = support_falls baskets (x ∷ rank ∷ []) (rank ∷ []) (contains_each (x ∷ rank ∷ []) (rank ∷ []) (λ z m. inr m))

  pub few_weights : AllByRecursion (λ (index : Weighted). IsRising index.basket) baskets → (ranks : List ℕ) → kept ≡ ranks → length ranks ≤ 1 → (with without : ℕ) → with ≡ first_support (supports ranks) → with + without ≡ support_of baskets (rank ∷ [])
      → (others : List Weighted) → ((test : List ℕ → Bool) → weight_where test others ≡ cond (test (0 ∷ [])) with 0 + cond (test []) without 0)
      → HaveSameWeights (conditional least baskets rank) (map (decoded_basket ranks) others)
  few_weights up [] are few with without is all others weigh test =
      weighs_so up rank with without (λ y keeps. absurd (subst (Member y) are (Member-kept baskets least rank y keeps)))
      (conditional_supports baskets least rank (rank ∷ []) ∙ not_own (is_kept baskets least rank rank) refl ∙ sym is) all test
      ∙ ap (λ n. n + cond (test []) without 0) (ap (λ w. cond (test (rank ∷ [])) w 0) is ∙ same_cond (test (rank ∷ [])) 0 ∙ sym (ap (λ w. cond (test (0 ∷ [])) w 0) is ∙ same_cond (test (0 ∷ [])) 0))
      ∙ sym (changed_weight test (decoded []) others ∙ weigh (λ basket. test (decoded [] basket)))
    where
      not_own : (b : Bool) → is_kept baskets least rank rank ≡ b → cond (b && true) (support_of baskets (rank ∷ rank ∷ [])) 0 ≡ 0
      not_own h1 h2 = grind (arith, common_steps)
  few_weights up (x ∷ []) are few with without is all others weigh test =
      weighs_so up x with without (λ y keeps. elim (subst (Member y) are (Member-kept baskets least rank y keeps)) [ inl e ↦ sym e | inr none ↦ absurd none ])
      (conditional_supports baskets least rank (x ∷ []) ∙ ap (λ b. cond (b && true) (support_of baskets (x ∷ rank ∷ [])) 0) kept_one ∙ sym is) all test
      ∙ sym (changed_weight test (decoded (x ∷ [])) others ∙ weigh (λ basket. test (decoded (x ∷ []) basket)))
    where
      kept_one : is_kept baskets least rank x ≡ true
      kept_one = (Member-filter (is_kept baskets least rank) x (range_with_len 0 rank) (subst (Member x) (sym are) (inl refl))).1
  few_weights up (x ∷ y ∷ ranks) are few with without is all others weigh test = absurd (omega (arith, few))
