-- The numbers that ranks have in a conditional database.
use Rattle.std.proofs.Common.{◌≡◌, ℕ, ◌+◌, ◌<◌, true, List, [], ◌∷◌, ◌++◌, get_or, length, map, cond, refl, sym, ap, ◌∙◌, subst, inl, inr, arith}
use Rattle.std.proofs.lemmas.Grind.{common_steps}
use Rattle.std.specs.List.{list_all, range_with_len}
use Rattle.std.proofs.lemmas.List.{get_or-map}
use Rattle.std.proofs.lemmas.List.Elements.{recursion_from_All}
use Rattle.basket_ranks.specs.Codes.{decoded, decoded_basket}
use Rattle.basket_ranks.proofs.theory.Coding.{into_decoded}
use Rattle.basket_ranks.proofs.theory.Decoding.{rank_from_decoded}
use Rattle.basket_sets.specs.declared.weighted.Weighted.{Weighted}
use Rattle.basket_sets.specs.Counts.{AllBelow}
use Rattle.basket_sets.specs.Itemset.{contains}
use Rattle.basket_sets.specs.Support.{support_of}
use Rattle.basket_sets.proofs.theory.Members.{Member, Member-filter, Member-from_map, Member-map, at_Member}
use Rattle.basket_sets.proofs.theory.Rising.{Member-from_has, contains_each, has-from_Member, has_each, rising_distinct, same_test}
use Rattle.basket_sets.proofs.theory.Support.{support-cons}
use Rattle.basket_sets.proofs.theory.Tests.{Member-at, all_of}
use Rattle.mine_baskets.specs.ListBaskets.{IsRankBasket, RankBaskets}
use Rattle.mine_classes.specs.Conditional.{is_kept}
use Rattle.mine_classes.proofs.theory.Conditional.{conditional_supports}
use Rattle.mine_pairs.specs.Pairs.{kept_ranks}
use Rattle.mine_pairs.proofs.theory.Kept.{kept_rises}
use Rattle.mine_conditional.specs.Paths.{IsConditional}

-- the ranks of some numbers
abbrev named : List ℕ → List ℕ → List ℕ
named ranks numbers = map (λ number. get_or ranks number 0) numbers

-- receipts in a list of numbers, whose ranks are named, are numbers of ranks
pub named_twice : (ranks chosen receipts : List ℕ) → AllBelow (length chosen) receipts → named (named ranks chosen) receipts ≡ named ranks (named chosen receipts)
named_twice ranks chosen [] low = refl
named_twice ranks chosen (k ∷ receipts) low =
    λ i. get_or-map (λ number. get_or ranks number 0) chosen k 0 0 (low k (has-from_Member (k ∷ receipts) k (inl refl))) i ∷ named_twice ranks chosen receipts (λ j h. low j (has-from_Member (k ∷ receipts) j (inr (Member-from_has receipts j h)))) i

-- and the numbers that stand at them are in the list
pub named_among : (chosen receipts : List ℕ) → AllBelow (length chosen) receipts → (number : ℕ) → Member number (named chosen receipts) → Member number chosen
named_among chosen receipts low number m = grind (arith, common_steps, Member-from_map, Member, Member-at, has-from_Member)

module _ (baskets : List Weighted) (least rank : ℕ) (below : RankBaskets) (is : IsConditional baskets least rank below) where
  abbrev kept : List ℕ
  kept = kept_ranks baskets least rank

  abbrev rank_of : ℕ → ℕ
  rank_of number = get_or kept number 0

  abbrev AreWithin : List Weighted → Type 0
  AreWithin receipts = (receipt : Weighted) → Member receipt receipts → AllBelow (length kept) receipt.basket

  within : AreWithin below.baskets
  within receipt m = subst (λ n. AllBelow n receipt.basket) is.ranks
      (at_Member (IsRankBasket below.ranks) receipt below.baskets (recursion_from_All (IsRankBasket below.ranks) below.baskets is.ranked.each) m).below

  module _ (numbers : List ℕ) (low : AllBelow (length kept) numbers) where
    known : (number : ℕ) → Member number numbers → number < length kept
    known number m = low number (has-from_Member numbers number m)

    contains_ranks : (basket : List ℕ) → AllBelow (length kept) basket → contains (decoded kept basket) (map rank_of numbers) ≡ contains basket numbers
    contains_ranks basket inside = same_test _ _
        (λ h. contains_each basket numbers (λ number m.
        rank_from_decoded kept basket number (rising_distinct kept (kept_rises baskets least rank)) inside (known number m)
        (has_each (decoded kept basket) (map rank_of numbers) h (rank_of number) (Member-map rank_of number numbers m))))
        (λ h. contains_each (decoded kept basket) (map rank_of numbers) (λ item m.
        let d = Member-from_map rank_of item numbers m in
        subst (λ x. Member x (decoded kept basket)) d.2 (into_decoded kept basket d.0 (has_each basket numbers h d.0 d.1))))

    decoded_support : (receipts : List Weighted) → AreWithin receipts → support_of (map (decoded_basket kept) receipts) (map rank_of numbers) ≡ support_of receipts numbers
    decoded_support [] inside = refl
    decoded_support (receipt ∷ receipts) inside =
        support-cons (decoded_basket kept receipt) (map (decoded_basket kept) receipts) (map rank_of numbers)
        ∙ (λ i. cond (contains_ranks receipt.basket (inside receipt (inl refl)) i) receipt.weight 0 + decoded_support receipts (λ p m. inside p (inr m)) i)
        ∙ sym (support-cons receipt receipts numbers)

    all_kept : list_all (is_kept baskets least rank) (map rank_of numbers) ≡ true
    all_kept = all_of (is_kept baskets least rank) (map rank_of numbers) (λ item m.
        let d = Member-from_map rank_of item numbers m in
        ap (is_kept baskets least rank) (sym d.2) ∙ (Member-filter (is_kept baskets least rank) (rank_of d.0) (range_with_len 0 rank) (Member-at kept d.0 (known d.0 d.1))).1)

    -- numbers have the support that their ranks have with the rank
    pub support_below : support_of below.baskets numbers ≡ support_of baskets (map rank_of numbers ++ rank ∷ [])
    support_below =
        sym (decoded_support below.baskets within)
        ∙ sym (is.weights (λ basket. contains basket (map rank_of numbers)))
        ∙ conditional_supports baskets least rank (map rank_of numbers)
        ∙ ap (λ b. cond b (support_of baskets (map rank_of numbers ++ rank ∷ [])) 0) all_kept
