-- Lines of counted sets.
use Rattle.std.specs.Prelude.{ℕ, List}
use Rattle.basket_read.specs.declared.counted_line.CountedLine.{CountedLine}

abbrev pub line : List ℕ → ℕ → ℕ → CountedLine
line set count number = record { set = set; count = count; line = number }
