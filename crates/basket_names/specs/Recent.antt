-- The numbers of names that were found recently.
use Rattle.std.specs.Prelude.{◌≤◌, ℕ, List}
use Rattle.std.specs.List.{All}
use Rattle.basket_names.specs.declared.key.Key.{Key}
use Rattle.basket_names.specs.declared.key.TheConstants.{WHOLE}
use Rattle.basket_names.specs.declared.recent.Recent.{Recent}
use Rattle.basket_names.specs.declared.recent.RecentName.{RecentName}
use Rattle.basket_names.specs.Key.{name_with}
use Rattle.basket_names.specs.Names.{IsKnown}

-- if a key distinguishes its name from all others, the name is among the names and has this number
abbrev pub IsNumberAt : List (List ℕ) → Key → ℕ → Type 0
IsNumberAt names key number = key.len ≤ WHOLE → IsKnown names (name_with key.len key.front key.back) number

-- so is the name in a slot, if it has one
abbrev pub HasKnown : List (List ℕ) → RecentName → Type 0
HasKnown names slot = slot.len ≤ WHOLE → IsKnown names (name_with slot.len slot.front slot.back) slot.number

-- the names that are kept are among the names, with their numbers
abbrev pub KeepsKnown : List (List ℕ) → Recent → Type 0
KeepsKnown names recent = All (λ bucket. HasKnown names bucket.newer × HasKnown names bucket.older) recent.buckets.items
