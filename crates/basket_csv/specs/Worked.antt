-- Texts in ASCII, a bar for a line feed, and counted sets.
use Rattle.std.specs.Prelude.{ℕ, ◌==◌, if◌then◌else◌, List, map}
use Rattle.basket_read.specs.declared.counted_line.CountedLine.{CountedLine}

-- a line feed for each bar
abbrev pub lines : List ℕ → List ℕ
lines bytes = map (λ byte. if byte == 124 then 10 else byte) bytes

-- a set with its count and its record's number
abbrev pub counted : List ℕ → ℕ → ℕ → CountedLine
counted set count nth = record { set = set; count = count; line = nth }
