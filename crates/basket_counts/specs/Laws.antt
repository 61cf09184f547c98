-- Laws on the grammar and on faults.
use Rattle.std.specs.Prelude.{◌≡◌, ◌≤◌, ℕ, ◌+◌, List, [], ◌∷◌, ◌++◌, length, All, codes, decimal, Ok}
use Rattle.std.specs.List.{flat_map}
use Rattle.basket_sets.specs.declared.counted.Counted.{Counted}
use Rattle.basket_sets.specs.Database.{MOST_WEIGHT}
use Rattle.basket_sets.specs.Itemset.{IsRising}
use Rattle.basket_read.specs.declared.counted_line.CountedLine.{CountedLine}
use Rattle.basket_read.specs.Fimi.{MOST_NUMBER, MOST_BYTES}
use Rattle.basket_counts.specs.Counts.{counts_of}

-- the items of a set with a space after each
abbrev pub items_text : List ℕ → List ℕ
items_text items = flat_map (λ item. decimal item ++ 32 ∷ []) items

-- the line of a set: its items, the count in parentheses, a line feed
abbrev pub set_line : Counted → List ℕ
set_line counted = items_text counted.set ++ codes "(" ++ decimal counted.count ++ codes ")\n"

-- a counted set that can be written: its items rise, and its items and its count are within their bounds
pub record IsWritten (counted : Counted) : Type 0 where
  pub rising : IsRising counted.set
  pub items : All (λ item. item ≤ MOST_NUMBER) counted.set
  pub count : counted.count ≤ MOST_WEIGHT

-- counted sets with the numbers of their lines, of which the first has this number
abbrev pub lines_from : ℕ → List Counted → List CountedLine
lines_from line [] = []
lines_from line (counted ∷ sets) = record { set = counted.set; count = counted.count; line = line } ∷ lines_from (line + 1) sets

-- the lines of counted sets, in so few bytes as an input may have, are read back as these sets with these counts
abbrev pub ListsAreReadBack : Type 0
ListsAreReadBack = (sets : List Counted) → All IsWritten sets → length (flat_map set_line sets) ≤ MOST_BYTES → counts_of (flat_map set_line sets) ≡ Ok (lines_from 1 sets)
