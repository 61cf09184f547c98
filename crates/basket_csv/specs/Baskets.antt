-- What has been read of records that have a basket each.
use Rattle.std.specs.Prelude.{◌≡◌, ℕ, Bool, List, Result, Ok}
use Rattle.std.specs.List.{flat_map}
use Rattle.basket_read.specs.declared.fault.ReadFault.{ReadFault}
use Rattle.basket_read.specs.declared.item_counts.ItemCounts.{ItemCounts}
use Rattle.basket_sets.specs.declared.weighted.Weighted.{Weighted}
use Rattle.basket_csv.specs.declared.baskets.Baskets.{Baskets}
use Rattle.basket_csv.specs.declared.reading.Reading.{Reading}
use Rattle.basket_csv.specs.Csv.{Named, basket_of}
use Rattle.basket_csv.specs.Rows.{Rows}
use Rattle.basket_read.specs.GatheredBaskets.{AreGathered, HasGathered}

-- the baskets are those of these records, over these names
pub record HasBaskets (baskets : Baskets) (reading : Reading) (names : List (List ℕ)) (rows : Rows) : Type 0 where
  pub weighted : baskets.weighted ≡ reading.weighted
  pub gathered : HasGathered baskets.gathered reading.counting (flat_map (basket_of reading.weighted names) rows)

-- these names and the baskets that were gathered are the ones that are said
abbrev pub AreNamedCounts : Bool → ItemCounts × List (List ℕ) → Result Named ReadFault → Type 0
AreNamedCounts counting found said = (baskets : List Weighted) × (said ≡ Ok (baskets, found.1)) × AreGathered counting found.0 baskets
