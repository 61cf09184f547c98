-- Baskets with weights. A receipt is one of them: a basket, and how many times it was bought.
use Rattle.std.specs.Prelude.{◌≡◌, ◌≢◌, ◌≤◌, ◌+◌, ℕ, List, [], ◌∷◌, fold, length, All, if◌then◌else◌, nat_eq}
use Rattle.std.specs.Cmp.Lexicographic.{pointwise}
use Rattle.basket_sets.specs.declared.weighted.Weighted.{Weighted}
use Rattle.basket_sets.specs.Itemset.{IsRising, renamed_set}
use Rattle.basket_sets.specs.Support.{support_of, total_of}

-- a basket of some weight
abbrev pub weighted : List ℕ → ℕ → Weighted
weighted basket weight = record { basket = basket; weight = weight }

-- a basket whose items have other names, each of which stands at the index of its item
abbrev pub renamed_basket : List ℕ → Weighted → Weighted
renamed_basket names receipt = weighted (renamed_set names receipt.basket) receipt.weight

-- a basket whose weight is at least 1
abbrev pub HasWeight : Weighted → Type 0
HasWeight receipt = 1 ≤ receipt.weight

-- a basket of a database: it is a nonempty set, and its weight is at least 1
abbrev pub IsBasket : Weighted → Type 0
IsBasket receipt = IsRising receipt.basket × (receipt.basket ≢ []) × (1 ≤ receipt.weight)

-- how many baskets a database has at most, and how much they weigh together at most
abbrev pub MOST_BASKETS : ℕ
MOST_BASKETS = 4294967294

abbrev pub MOST_WEIGHT : ℕ
MOST_WEIGHT = 1099511627775

-- what every database is
pub record IsDatabase (baskets : List Weighted) : Type 0 where
  pub each : All IsBasket baskets
  pub few : length baskets ≤ MOST_BASKETS
  pub light : total_of baskets ≤ MOST_WEIGHT

-- the list with a basket's weight added to that of its equal, or with the basket at its end
abbrev pub with_basket : List Weighted → Weighted → List Weighted
with_basket [] receipt = receipt ∷ []
with_basket (other ∷ others) receipt =
    if pointwise nat_eq receipt.basket other.basket then weighted other.basket (other.weight + receipt.weight) ∷ others
    else other ∷ with_basket others receipt

-- each distinct basket once, where it first comes, with the sum of its weights
abbrev pub merged_of : List Weighted → List Weighted
merged_of baskets = fold with_basket [] baskets

-- merging changes no support
abbrev pub MergingKeepsSupports : Type 0
MergingKeepsSupports = (baskets : List Weighted) (set : List ℕ) → support_of (merged_of baskets) set ≡ support_of baskets set
