-- The frequent items by rank, and baskets as lists of ranks.
use Rattle.std.specs.Prelude.{◌≡◌, ◌<◌, ◌≤◌, ℕ, ◌+◌, List, [], ◌∷◌, map, filter, length, Option, Some, None, nat_eq, ◌==◌, if◌then◌else◌, slice_index_or, All}
use Rattle.std.specs.List.{IsDistinct}
use Rattle.std.specs.declared.cmp.Ordering.{Ordering}
use Rattle.std.specs.Ordering.{nat_cmp, ordering_then, is_lt}
use Rattle.basket_sets.specs.declared.weighted.Weighted.{Weighted}
use Rattle.basket_sets.specs.declared.counted.Counted.{Counted}
use Rattle.basket_sets.specs.declared.minimum.Minimum.{Minimum}
use Rattle.basket_sets.specs.Counts.{item_supports, AllBelow}
use Rattle.basket_sets.specs.Database.{weighted, HasWeight, merged_of, MOST_WEIGHT}
use Rattle.basket_sets.specs.Frequent.{frequent_of, ListsOnce}
use Rattle.basket_sets.specs.Itemset.{IsRising, has, rising}
use Rattle.basket_sets.specs.Minimum.{meets}
use Rattle.basket_sets.specs.Support.{total_of}

-- the order of ranks, of items with their counts: falling counts, equal counts by rising number
abbrev pub rank_order : ℕ × ℕ → ℕ × ℕ → Ordering
rank_order a b = ordering_then (nat_cmp b.1 a.1) (nat_cmp a.0 b.0)

-- an entry put before the first that comes after it
abbrev pub with_entry : ℕ × ℕ → List (ℕ × ℕ) → List (ℕ × ℕ)
with_entry entry [] = entry ∷ []
with_entry entry (first ∷ others) = if is_lt (rank_order entry first) then entry ∷ first ∷ others else first ∷ with_entry entry others

-- items with their counts, in the order of ranks
abbrev pub ranked : List (ℕ × ℕ) → List (ℕ × ℕ)
ranked [] = []
ranked (entry ∷ entries) = with_entry entry (ranked entries)

-- the items of some counts that meet a minimum, by rank
abbrev pub ranks_of_counts : List (ℕ × ℕ) → ℕ → Minimum → List ℕ
ranks_of_counts counts total minimum = map (λ entry. entry.0) (ranked (filter (λ entry. meets minimum entry.1 total) counts))

-- the frequent items by rank
abbrev pub ranks_of : List Weighted → Minimum → List ℕ
ranks_of baskets minimum = ranks_of_counts (item_supports baskets) (total_of baskets) minimum

-- how many ranks there are at most, and one more
abbrev pub MOST_RANKS : ℕ
MOST_RANKS = 4294967296

-- what codes are: the item of each rank, and what they were made for
pub record Ranking : Type 0 where
  pub items : List ℕ
  pub minimum : Minimum
  pub total : ℕ

abbrev pub ranking_of : List Weighted → Minimum → Ranking
ranking_of baskets minimum = record { items = ranks_of baskets minimum; minimum = minimum; total = total_of baskets }

-- the rank of an item, where the first of the items has a number
abbrev pub rank_from : ℕ → List ℕ → ℕ → Option ℕ
rank_from number [] item = None
rank_from number (first ∷ others) item = if first == item then Some number else rank_from (number + 1) others item

abbrev pub rank_of : List ℕ → ℕ → Option ℕ
rank_of items item = rank_from 0 items item

-- the ranks of the items that a basket has, where the first of the items has a number
abbrev pub ranks_from : ℕ → List ℕ → List ℕ → List ℕ
ranks_from number [] basket = []
ranks_from number (item ∷ items) basket = if has basket item then number ∷ ranks_from (number + 1) items basket else ranks_from (number + 1) items basket

-- a basket as ranks: the rising ranks of the items that it has
abbrev pub coded : List ℕ → List ℕ → List ℕ
coded items basket = ranks_from 0 items basket

-- the set of the items of some ranks
abbrev pub decoded : List ℕ → List ℕ → List ℕ
decoded items ranks = rising (map (λ rank. slice_index_or items rank 0) ranks)

-- baskets as ranks, each with its weight, in the order of the database, and the item of each rank
pub record Coding : Type 0 where
  pub items : List ℕ
  pub minimum : Minimum
  pub baskets : List Weighted

abbrev pub coded_basket : List ℕ → Weighted → Weighted
coded_basket items receipt = weighted (coded items receipt.basket) receipt.weight

abbrev pub coding_of : List Weighted → Minimum → Coding
coding_of baskets minimum =
    record { items = ranks_of baskets minimum; minimum = minimum; baskets = map (coded_basket (ranks_of baskets minimum)) baskets }

-- a basket of ranks: they rise, and each is the rank of an item
abbrev pub IsCodedBasket : List ℕ → Weighted → Type 0
IsCodedBasket items receipt = IsRising receipt.basket × AllBelow (length items) receipt.basket

-- what every coding is
pub record IsCoding (coding : Coding) : Type 0 where
  pub distinct : IsDistinct nat_eq coding.items
  pub few : length coding.items < MOST_RANKS
  pub each : All (IsCodedBasket coding.items) coding.baskets
  pub weights : All HasWeight coding.baskets
  pub light : total_of coding.baskets ≤ MOST_WEIGHT

-- the baskets of a coding as items, kept to the items that have ranks
abbrev pub decoded_basket : List ℕ → Weighted → Weighted
decoded_basket items receipt = weighted (decoded items receipt.basket) receipt.weight

abbrev pub baskets_of : Coding → List Weighted
baskets_of coding = map (decoded_basket coding.items) coding.baskets

-- the same with each distinct basket of ranks once
abbrev pub merged_coding : Coding → Coding
merged_coding coding = record { items = coding.items; minimum = coding.minimum; baskets = merged_of coding.baskets }

-- the frequent sets of the baskets of a coding
abbrev pub frequent_of_coding : Coding → List Counted
frequent_of_coding coding = frequent_of (baskets_of coding) coding.minimum

-- coding keeps the frequent sets
abbrev pub CodingKeepsFrequent : Type 0
CodingKeepsFrequent = (baskets : List Weighted) (minimum : Minimum) → frequent_of_coding (coding_of baskets minimum) ≡ frequent_of baskets minimum

-- merging equal baskets of ranks keeps the frequent sets and the weight of all baskets together
abbrev pub MergingKeepsCoded : Type 0
MergingKeepsCoded = (coding : Coding)
    → (frequent_of_coding (merged_coding coding) ≡ frequent_of_coding coding) × (total_of (merged_of coding.baskets) ≡ total_of coding.baskets)

-- a set of ranks with its count, as a set of items
abbrev pub decoded_set : List ℕ → Counted → Counted
decoded_set items counted = record { set = decoded items counted.set; count = counted.count }

-- a list that has each frequent set of ranks once has, as items, each frequent set once
abbrev pub DecodingKeepsFrequent : Type 0
DecodingKeepsFrequent = (coding : Coding) (list : List Counted) → IsCoding coding → ListsOnce coding.baskets coding.minimum list
    → ListsOnce (baskets_of coding) coding.minimum (map (decoded_set coding.items) list)
