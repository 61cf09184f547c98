-- What a reader returns.
use Rattle.std.specs.Prelude.{◌≡◌, ℕ, List, Result, Ok}
use Rattle.basket_sets.specs.declared.weighted.Weighted.{Weighted}
use Rattle.basket_read.specs.declared.fault.ReadFault.{ReadFault}
use Rattle.basket_read.specs.declared.item_counts.ItemCounts.{ItemCounts}
use Rattle.basket_read.specs.ItemCounts.{AreCountsOf}
use Rattle.basket_csv.specs.Csv.{Named}

-- the items of the baskets that are defined were counted, and the names are theirs
abbrev pub AreCountsNamed : ItemCounts × List (List ℕ) → Result Named ReadFault → Type 0
AreCountsNamed found defined = (baskets : List Weighted) × (defined ≡ Ok (baskets, found.1)) × AreCountsOf found.0 baskets
