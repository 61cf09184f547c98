-- The counts of the items of some baskets.
use Rattle.std.specs.Prelude.{◌≡◌, ◌≤◌, List, ◌++◌, Result, Ok}
use Rattle.basket_sets.specs.declared.weighted.Weighted.{Weighted}
use Rattle.basket_sets.specs.Database.{MOST_WEIGHT}
use Rattle.basket_sets.specs.ItemTable.{HasCounted}
use Rattle.basket_sets.specs.Support.{total_of}
use Rattle.basket_read.specs.declared.fault.ReadFault.{ReadFault}
use Rattle.basket_read.specs.declared.item_counts.ItemCounts.{ItemCounts}

-- the table has counted the first of the baskets, and the others are kept
abbrev pub AreCountsOf : ItemCounts → List Weighted → Type 0
AreCountsOf counts baskets = (first : List Weighted) × HasCounted counts.table first × (baskets ≡ first ++ counts.rest)

-- they are the counts of some baskets, which a database may have
abbrev pub AreLightCounts : ItemCounts → Type 0
AreLightCounts counts = (baskets : List Weighted) × AreCountsOf counts baskets × (total_of baskets ≤ MOST_WEIGHT)

-- the baskets that were counted are those that are defined
abbrev pub CountsDefined : ItemCounts → Result (List Weighted) ReadFault → Type 0
CountsDefined counts defined = (baskets : List Weighted) × (defined ≡ Ok baskets) × AreCountsOf counts baskets
