-- Baskets as lists of ranks: side by side with those that are equal, and each distinct one once.
use Rattle.std.specs.Prelude.{◌≡◌, ◌≤◌, ◌+◌, ◌++◌, ℕ, Bool, false, List, [], ◌∷◌, fold, All, if◌then◌else◌, nat_eq}
use Rattle.std.specs.Cmp.Lexicographic.{pointwise}
use Rattle.std.specs.List.{sum_by}
use Rattle.basket_sets.specs.declared.weighted.Weighted.{Weighted}
use Rattle.basket_sets.specs.Counts.{AllBelow}
use Rattle.basket_sets.specs.Database.{HasWeight, MOST_WEIGHT, weighted}
use Rattle.basket_sets.specs.Itemset.{IsRising}
use Rattle.basket_sets.specs.Support.{total_of}

-- a basket of ranks: they rise, and each is below a number of ranks
pub record IsRankBasket (ranks : ℕ) (receipt : Weighted) : Type 0 where
  pub rises : IsRising receipt.basket
  pub below : AllBelow ranks receipt.basket
  pub weighs : HasWeight receipt

-- baskets of ranks, and how many ranks there are
pub record RankBaskets : Type 0 where
  pub ranks : ℕ
  pub baskets : List Weighted

-- what all lists of baskets of ranks are
pub record AreRankBaskets (value : RankBaskets) : Type 0 where
  pub each : All (IsRankBasket value.ranks) value.baskets
  pub light : total_of value.baskets ≤ MOST_WEIGHT

-- what the baskets weigh that pass a test
abbrev pub weight_where : (List ℕ → Bool) → List Weighted → ℕ
weight_where test baskets = sum_by (λ receipt. if test receipt.basket then receipt.weight else 0) baskets

-- two lists have the same baskets with the same weights, where several equal baskets are as good as one of their weight together. So they give each set the same support
abbrev pub HaveSameWeights : List Weighted → List Weighted → Type 0
HaveSameWeights baskets others = (test : List ℕ → Bool) → weight_where test baskets ≡ weight_where test others

-- whether the last basket is this one
abbrev pub repeats_last : List Weighted → List ℕ → Bool
repeats_last [] basket = false
repeats_last (receipt ∷ []) basket = pointwise nat_eq receipt.basket basket
repeats_last (receipt ∷ next ∷ receipts) basket = repeats_last (next ∷ receipts) basket

-- the baskets with more weight at the last
abbrev pub with_last_raised : ℕ → List Weighted → List Weighted
with_last_raised weight [] = []
with_last_raised weight (receipt ∷ []) = weighted receipt.basket (receipt.weight + weight) ∷ []
with_last_raised weight (receipt ∷ next ∷ receipts) = receipt ∷ with_last_raised weight (next ∷ receipts)

-- a basket added at the end, or its weight to the last one where that is equal
abbrev pub with_basket : List Weighted → Weighted → List Weighted
with_basket receipts receipt = if repeats_last receipts receipt.basket then with_last_raised receipt.weight receipts else receipts ++ receipt ∷ []

-- equal neighbours made one, with their weights added
abbrev pub neighbours_merged : List Weighted → List Weighted
neighbours_merged baskets = fold with_basket [] baskets

-- baskets of ranks put together from others, with the same weights
pub record AreGrouped (count : ℕ) (baskets : List Weighted) (grouped : RankBaskets) : Type 0 where
  pub ranks : grouped.ranks ≡ count
  pub ranked : AreRankBaskets grouped
  pub weights : HaveSameWeights baskets grouped.baskets
