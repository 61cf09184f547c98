-- Sets without one of their items, and where these stand in a list.
use Rattle.std.specs.Prelude.{◌≡◌, ◌≢◌, ◌<◌, ℕ, suc, List, length, slice_index_or}
use Rattle.basket_lists.specs.CountedSets.{set_at}
use Rattle.basket_order.specs.declared.index_table.TheConstants.{NOWHERE}
use Rattle.basket_sets.specs.declared.counted.Counted.{Counted}
use Rattle.basket_sets.specs.Itemset.{IsRising, with_item}

-- a rising set is another with an item that the other lacks
pub record IsLongerBy (item : ℕ) (set longer : List ℕ) : Type 0 where
  pub rises : IsRising longer
  pub is : longer ≡ with_item item set
  pub size : length longer ≡ suc (length set)

-- a number is the index of the set without the item, or says nothing
abbrev pub IsIndexWithout : List Counted → List ℕ → ℕ → ℕ → Type 0
IsIndexWithout sets set item index = index ≢ NOWHERE → (index < length sets) × IsLongerBy item (set_at sets index) set

-- beside each of the first items of a set stands such a number
abbrev pub AreIndexesWithout : List Counted → List ℕ → ℕ → List ℕ → Type 0
AreIndexesWithout sets set count indexes = (k : ℕ) → k < count → k < length set → IsIndexWithout sets set (slice_index_or set k 0) (slice_index_or indexes k NOWHERE)
