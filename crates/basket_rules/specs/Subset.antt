-- Subsets of one item less, and supersets of one item more.
use Rattle.std.specs.Prelude.{◌≡◌, ◌<◌, ℕ, List, length}
use Rattle.basket_sets.specs.declared.counted.Counted.{Counted}
use Rattle.basket_rules.specs.Listed.{set_at}
use Rattle.basket_sets.specs.Itemset.{without}

-- the set numbered `below` is the one numbered `above` without its item at the index
pub record IsWithout (list : List Counted) (above index below : ℕ) : Type 0 where
  pub listed : above < length list
  pub within : index < length (set_at list above)
  pub is : without index (set_at list above) ≡ set_at list below
