-- Baskets that are gathered one after another.
use Rattle.std.specs.Prelude.{◌≡◌, ◌≤◌, ◌<◌, Bool, true, false, List, [], ◌++◌, Result, Ok}
use Rattle.basket_sets.specs.declared.weighted.Weighted.{Weighted}
use Rattle.basket_sets.specs.ItemTable.{HasCounted}
use Rattle.basket_sets.specs.Database.{MOST_WEIGHT}
use Rattle.basket_sets.specs.Support.{total_of}
use Rattle.basket_read.specs.declared.fault.ReadFault.{ReadFault}
use Rattle.basket_read.specs.declared.item_counts.ItemCounts.{ItemCounts}
use Rattle.basket_read.specs.declared.gathered.GatheredBaskets.{GatheredBaskets}
use Rattle.basket_read.specs.ItemCounts.{AreCountsOf}

-- a database has the baskets, which don't weigh too much, or they are known to weigh too much
abbrev pub HasBaskets : Bool → List Weighted → List Weighted → Type 0
HasBaskets true database baskets = MOST_WEIGHT < total_of baskets
HasBaskets false database baskets = (database ≡ baskets) × (total_of baskets ≤ MOST_WEIGHT)

-- these are the baskets that were gathered; the first of them may be past, which were counted and are not kept, if baskets are counted
pub record HasGathered (gathered : GatheredBaskets) (counting : Bool) (baskets : List Weighted) : Type 0 where
  pub chosen : gathered.counting ≡ counting
  pub past : List Weighted
  pub uncounted : counting ≡ false → past ≡ []
  pub counted : HasCounted gathered.table past
  pub kept : HasBaskets gathered.heavy (past ++ gathered.baskets) baskets

-- these are the counts of some baskets, which a database may have, and all are kept unless baskets are counted
abbrev pub AreGathered : Bool → ItemCounts → List Weighted → Type 0
AreGathered counting counts baskets = AreCountsOf counts baskets × (total_of baskets ≤ MOST_WEIGHT) × (counting ≡ false → counts.rest ≡ baskets)

-- the same, and these baskets are the ones that are defined
abbrev pub Gathers : Bool → ItemCounts → Result (List Weighted) ReadFault → Type 0
Gathers counting counts defined = (baskets : List Weighted) × (defined ≡ Ok baskets) × AreGathered counting counts baskets
