-- A table from items to ranks.
use Rattle.std.specs.Prelude.{◌≡◌, ◌<◌, ◌≤◌, ℕ, List, Option, None, length, map, slice_index_or}
use Rattle.std.specs.BTreeMap.{get}
use Rattle.std.specs.Ordering.{nat_cmp}
use Rattle.basket_ranks.specs.declared.ranks.RankedItem.{RankedItem}
use Rattle.basket_ranks.specs.declared.ranks.RankTable.{RankTable}
use Rattle.basket_ranks.specs.Codes.{rank_of}

-- an entry as an item with its count
abbrev pub entry_of : RankedItem → ℕ × ℕ
entry_of entry = (entry.item, entry.count.0)

abbrev pub entries_of : List RankedItem → List (ℕ × ℕ)
entries_of entries = map entry_of entries

-- each slot has the rank of the item with its number, where that has one
abbrev pub AreSlots : List ℕ → List (Option ℕ) → Type 0
AreSlots ranked slots = (item : ℕ) → item < length slots → slice_index_or slots item None ≡ rank_of ranked item

-- the table answers the index of each item in the list, which is its rank: at its slot, or else in the map
pub record IsRankTable (ranked : List ℕ) (table : RankTable) : Type 0 where
  pub slots : AreSlots ranked table.slots.items
  pub others : (item : ℕ) → length table.slots.items ≤ item → get nat_cmp table.others item ≡ rank_of ranked item
