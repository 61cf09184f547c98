-- The conditional database of a rank by the paths of its runs.
use Rattle.std.proofs.Common.{◌≡◌, ℕ, ◌<◌, Bool, true, List, [], ◌∷◌, length, get_or, map, ltb, refl, sym, ap, ◌∙◌, subst, arith, zero-add}
use Rattle.std.proofs.lemmas.Grind.{common_steps}
use Rattle.std.specs.Prelude.{All}
use Rattle.std.specs.List.{AllByRecursion, filter, flat_map, range_with_len}
use Rattle.std.specs.Ordering.{nat_cmp}
use Rattle.std.proofs.lemmas.List.{get_or_default}
use Rattle.std.proofs.lemmas.List.Elements.{recursion_from_All}
use Rattle.std.proofs.lemmas.List.Kept.{IsStrictlySortedBy-filter}
use Rattle.std.proofs.lemmas.List.Sums.{sum_by-cons}
use Rattle.basket_ranks.specs.Codes.{coded, coded_basket, decoded, decoded_basket}
use Rattle.basket_ranks.proofs.theory.Coding.{from_decoded, from_ranks, into_decoded, into_ranks}
use Rattle.basket_sets.specs.declared.weighted.Weighted.{Weighted}
use Rattle.basket_sets.specs.Itemset.{IsRising}
use Rattle.basket_sets.proofs.theory.Members.{Member, Member-filter, Member-from_filter, Contains-from_Member}
use Rattle.basket_sets.proofs.theory.Rising.{Member-from_has, has-from_Member, rising-rises, same_rising}
use Rattle.basket_sets.proofs.theory.Tests.{Member-at}
use Rattle.mine_classes.specs.Conditional.{conditional, is_kept, kept_basket}
use Rattle.mine_baskets.specs.ListBaskets.{HaveSameWeights, IsRankBasket, weight_where}
use Rattle.mine_pairs.specs.Pairs.{kept_ranks}
use Rattle.mine_pairs.specs.Runs.{below}
use Rattle.mine_pairs.proofs.theory.Kept.{Member-kept}
use Rattle.mine_baskets.proofs.theory.Weights.{changed_weight}

-- ---- weights of baskets that a function changes

same_tests_weigh : (P : Weighted → Type 0) (p q : List ℕ → Bool) (receipts : List Weighted) → ((index : Weighted) → P index → p index.basket ≡ q index.basket) → AllByRecursion P receipts
    → weight_where p receipts ≡ weight_where q receipts
same_tests_weigh P p q [] same all = refl
same_tests_weigh P p q (index ∷ receipts) same all = grind (arith, common_steps, same_tests_weigh P p q receipts same all.1)

-- ---- the ranks that are kept

module _ (baskets : List Weighted) (least rank : ℕ) where
  abbrev keeps : ℕ → Bool
  keeps other = is_kept baskets least rank other

  abbrev kept : List ℕ
  kept = kept_ranks baskets least rank

  kept_at : (k : ℕ) → k < length kept → keeps (get_or kept k 0) ≡ true
  kept_at k here = (Member-filter keeps (get_or kept k 0) (range_with_len 0 rank) (Member-at kept k here)).1

  -- a rising basket coded by the kept ranks and decoded again is kept to them
  pub back_again : (basket : List ℕ) → IsRising basket → decoded kept (coded kept basket) ≡ filter keeps basket
  back_again basket up = same_rising (decoded kept (coded kept basket)) (filter keeps basket)
      (rising-rises (map (λ index. get_or kept index 0) (coded kept basket))) (IsStrictlySortedBy-filter nat_cmp keeps basket up)
      (λ item m.
      let d = from_decoded kept (coded kept basket) item m in
      let r = from_ranks 0 kept basket d.0 d.1 in
      let at : get_or kept r.0 0 ≡ item = ap (λ k. get_or kept k 0) (sym (r.2 ∙ zero-add r.0)) ∙ d.2 in
      subst (λ x. Member x (filter keeps basket)) at (Member-from_filter keeps (get_or kept r.0 0) basket (Member-from_has basket (get_or kept r.0 0) r.3) (kept_at r.0 r.1)))
      (λ item m.
      let f = Member-filter keeps item basket m in
      let c = Contains-from_Member item kept (Member-kept baskets least rank item f.1) in
      let at : get_or kept c.0 0 ≡ item = get_or_default kept c.0 0 item c.1 ∙ c.2 in
      let index = into_ranks 0 kept basket c.0 c.1 (has-from_Member basket (get_or kept c.0 0) (subst (λ x. Member x basket) (sym at) f.0)) in
      subst (λ x. Member x (decoded kept (coded kept basket))) at (into_decoded kept (coded kept basket) c.0 (subst (λ n. Member n (coded kept basket)) (zero-add c.0) index)))

  -- ---- the baskets

  filter_twice : (basket : List ℕ) → filter keeps (filter (λ other. ltb other rank) basket) ≡ filter keeps basket
  filter_twice [] = refl
  filter_twice (x ∷ basket) = grind (arith, common_steps, filter_twice basket)

  below_weight : (test : List ℕ → Bool) (receipts : List Weighted) → weight_where (λ basket. test (filter keeps basket)) (below rank receipts) ≡ weight_where test (flat_map (kept_basket keeps rank) receipts)
  below_weight test [] = refl
  below_weight test (index ∷ receipts) = grind (arith, common_steps, below_weight test receipts, sum_by-cons, filter_twice)

  pub conditional_weights : (count : ℕ) (paths : List Weighted) → HaveSameWeights (below rank baskets) paths → All (IsRankBasket count) paths → (others : List Weighted)
      → HaveSameWeights (map (coded_basket kept) paths) others → HaveSameWeights (conditional least baskets rank) (map (decoded_basket kept) others)
  conditional_weights count paths weights ranked others same test =
      sym (below_weight test baskets)
      ∙ weights (λ basket. test (filter keeps basket))
      ∙ sym (same_tests_weigh (IsRankBasket count) (λ basket. test (decoded kept (coded kept basket))) (λ basket. test (filter keeps basket)) paths
      (λ index is. ap test (back_again index.basket is.rises)) (recursion_from_All (IsRankBasket count) paths ranked))
      ∙ sym (changed_weight (λ basket. test (decoded kept basket)) (coded kept) paths)
      ∙ same (λ basket. test (decoded kept basket))
      ∙ sym (changed_weight test (decoded kept) others)
