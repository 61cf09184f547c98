-- The code finds the ranks of each basket, and what it makes is a coding.
use Rattle.std.proofs.Common.{◌≡◌, ℕ, zero, suc, ◌+◌, ◌<◌, ◌≤◌, List, [], ◌∷◌, ◌++◌, length, take, drop, get_or, set, arith, map, Option, Some, refl, sym, ap, ◌∙◌, subst, inl, inr}
use Rattle.std.proofs.lemmas.Grind.{common_steps}
use Rattle.std.specs.Prelude.{nat_eq}
use Rattle.std.specs.List.{All, IsDistinct, filter_map}
use Rattle.std.proofs.lemmas.List.Elements.{All-map, All-from_recursion, recursion_from_All}
use Rattle.basket_sets.specs.declared.weighted.Weighted.{Weighted}
use Rattle.basket_sets.specs.declared.minimum.Minimum.{Minimum}
use Rattle.basket_ranks.specs.Codes.{MOST_RANKS, ranked, rank_of, coded, coded_basket, IsCoding, IsCodedBasket, Coding, merged_coding}
use Rattle.basket_sets.specs.Database.{MOST_WEIGHT, HasWeight, merged_of}
use Rattle.basket_sets.specs.Itemset.{rising}
use Rattle.basket_sets.specs.Support.{total_of}
use Rattle.basket_sets.proofs.theory.Members.{Member}
use Rattle.basket_ranks.proofs.RankLemmas.{rank_at, rank_from_is}
use Rattle.basket_sets.proofs.theory.Rising.{rising_is, Member-from_has, has-from_Member}
use Rattle.basket_ranks.proofs.theory.Coding.{from_ranks, into_ranks, ranks_rise, coded_basket_is, coded_total}
use Rattle.basket_sets.proofs.theory.Merging.{merged_baskets, merging_keeps_supports}

-- ---- the code finds these ranks

Member-filter_map : (h : ℕ → Option ℕ) (xs : List ℕ) (y : ℕ) → Member y (filter_map h xs) → (x : ℕ) × Member x xs × (h x ≡ Some y)
Member-filter_map h [] y m = absurd m
Member-filter_map h (x ∷ xs) y m = grind (arith, common_steps, Member-filter_map h xs y)

Member-into_filter_map : (h : ℕ → Option ℕ) (xs : List ℕ) (x y : ℕ) → Member x xs → h x ≡ Some y → Member y (filter_map h xs)
Member-into_filter_map h [] x y m e = absurd m
Member-into_filter_map h (x' ∷ xs) x y (inl s) e = grind (arith, common_steps)
Member-into_filter_map h (x' ∷ xs) x y (inr m) e = grind (arith, common_steps, Member-into_filter_map h xs x y m e)

-- the ranks that are looked up, in rising order, are those of the basket
pub coded_is : (ranked basket : List ℕ) → IsDistinct nat_eq ranked → rising (filter_map (rank_of ranked) basket) ≡ coded ranked basket
coded_is ranked basket apart = rising_is (filter_map (rank_of ranked) basket) (coded ranked basket) (ranks_rise 0 ranked basket)
    (λ r m. let f = Member-filter_map (rank_of ranked) basket r m in let k = rank_from_is 0 ranked f.0 r f.2 in
    subst (λ n. Member n (coded ranked basket)) (sym k.2) (into_ranks 0 ranked basket k.0 k.1 (has-from_Member basket (get_or ranked k.0 0) (subst (λ x. Member x basket) (sym k.3) f.1))))
    (λ r m. let k = from_ranks 0 ranked basket r m in
    Member-into_filter_map (rank_of ranked) basket (get_or ranked k.0 0) r (Member-from_has basket (get_or ranked k.0 0) k.3) (rank_at 0 ranked k.0 0 apart k.1 ∙ ap Some (sym k.2)))

-- ---- a list is mapped one by one

pub mapped_at : {A : Type 0} (f : A → A) (xs : List A) (k : ℕ) (d : A) → k < length xs → get_or (map f (take k xs) ++ drop k xs) k d ≡ get_or xs k d
mapped_at f [] k d below = absurd (omega arith)
mapped_at f (x ∷ xs) zero d below = refl
mapped_at f (x ∷ xs) (suc k) d below = mapped_at f xs k d (omega arith)

mapped_more : {A : Type 0} (f : A → A) (xs : List A) (k : ℕ) (d : A) → k < length xs → set (map f (take k xs) ++ drop k xs) k (f (get_or xs k d)) ≡ map f (take (suc k) xs) ++ drop (suc k) xs
mapped_more f [] k d below = absurd (omega arith)
mapped_more f (x ∷ xs) zero d below = refl
mapped_more f (x ∷ xs) (suc k) d below = ap (λ l. f x ∷ l) (mapped_more f xs k d (omega arith))

-- one receipt more is coded where it lies
pub coded_more : (ranked : List ℕ) (baskets now : List Weighted) (k : ℕ) (d receipt : Weighted) → k < length baskets
    → now ≡ map (coded_basket ranked) (take k baskets) ++ drop k baskets → receipt ≡ coded_basket ranked (get_or now k d)
    → set now k receipt ≡ map (coded_basket ranked) (take (k + 1) baskets) ++ drop (k + 1) baskets
coded_more ranked baskets now k d receipt below so_far is =
    let one : k + 1 ≡ suc k = omega arith in
    let item = is ∙ ap (coded_basket ranked) (ap (λ l. get_or l k d) so_far ∙ mapped_at (coded_basket ranked) baskets k d below) in
    (λ i. set (so_far i) k (item i)) ∙ mapped_more (coded_basket ranked) baskets k d below
    ∙ ap (λ n. map (coded_basket ranked) (take n baskets) ++ drop n baskets) (sym one)

-- what is made of codes and a database is a coding
pub coding_is : (items : List ℕ) (minimum : Minimum) (database coded : List Weighted) → IsDistinct nat_eq items → length items < MOST_RANKS → total_of database ≤ MOST_WEIGHT
    → All HasWeight database → coded ≡ map (coded_basket items) database → IsCoding (record { items = items; minimum = minimum; baskets = coded })
coding_is items minimum database coded apart few light heavy same = record {
  distinct = apart;
  few = few;
  each = subst (All (IsCodedBasket items)) (sym same) (All-map (IsCodedBasket items) (coded_basket items) database (λ k d below. coded_basket_is items (get_or database k d)));
  weights = subst (All HasWeight) (sym same) (All-map HasWeight (coded_basket items) database heavy);
  light = subst (λ n. n ≤ MOST_WEIGHT) (sym (ap total_of same ∙ coded_total items database)) light;
}

-- a coding with equal baskets of ranks merged is a coding
pub merged_is_coding : (coding : Coding) → IsCoding coding → IsCoding (merged_coding coding)
merged_is_coding coding is = record {
  distinct = is.distinct;
  few = is.few;
  each = All-from_recursion (IsCodedBasket coding.items) (merged_of coding.baskets)
      (merged_baskets (IsCodedBasket coding.items) (λ receipt more its. its) coding.baskets (recursion_from_All (IsCodedBasket coding.items) coding.baskets is.each));
  weights = All-from_recursion HasWeight (merged_of coding.baskets) (merged_baskets HasWeight (λ receipt more its. omega (arith, its)) coding.baskets (recursion_from_All HasWeight coding.baskets is.weights));
  light = subst (λ n. n ≤ MOST_WEIGHT) (sym (merging_keeps_supports coding.baskets [])) is.light;
}
