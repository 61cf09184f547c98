-- Lines whose sets meet a minimum.
use Rattle.std.specs.Prelude.{ℕ, Bool, length, ◌&&◌, ◌==◌, not}
use Rattle.basket_read.specs.declared.counted_line.CountedLine.{CountedLine}
use Rattle.basket_sets.specs.declared.counted.Counted.{Counted}
use Rattle.basket_sets.specs.declared.minimum.Minimum.{Minimum}
use Rattle.basket_sets.specs.Itemset.{IsRising}
use Rattle.basket_sets.specs.Minimum.{meets}

-- whether the line's set has an item, and its count meets the minimum
abbrev pub is_frequent_line : Minimum → ℕ → CountedLine → Bool
is_frequent_line minimum total line = not (length line.set == 0) && meets minimum line.count total

-- the set of the line with its count
abbrev pub counted_of : CountedLine → Counted
counted_of line = record { set = line.set; count = line.count }

-- the items of the line's set rise
abbrev pub HasRisingSet : CountedLine → Type 0
HasRisingSet line = IsRising line.set
