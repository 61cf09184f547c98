-- Lines in the order of their sets, of which those that have one set are made one.
use Rattle.std.specs.Prelude.{◌≤◌, ℕ, ◌+◌, List, [], ◌∷◌, All, map, if◌then◌else◌}
use Rattle.basket_read.specs.declared.counted_line.CountedLine.{CountedLine}
use Rattle.basket_sets.specs.Database.{MOST_WEIGHT}
use Rattle.basket_sets.specs.Order.{IsInReportOrder}
use Rattle.basket_parts.specs.CombinedCounts.{is_of}

-- a line with some more to its count
abbrev pub with_more : CountedLine → ℕ → CountedLine
with_more line more = record { set = line.set; count = line.count + more; line = line.line }

-- a line and others, where each that has the set of the one before it is added to that
abbrev pub merged_from : CountedLine → List CountedLine → List CountedLine
merged_from kept [] = kept ∷ []
merged_from kept (line ∷ lines) = if is_of kept.set line then merged_from (with_more kept line.count) lines else kept ∷ merged_from line lines

abbrev pub merged : List CountedLine → List CountedLine
merged [] = []
merged (line ∷ lines) = merged_from line lines

-- a count that a set may have
abbrev pub IsLight : CountedLine → Type 0
IsLight line = line.count ≤ MOST_WEIGHT

-- a list that is put together: each set once, in report order, with a count that it may have
pub record IsTogether (lines : List CountedLine) : Type 0 where
  pub in_order : IsInReportOrder (map (λ line. line.set) lines)
  pub light : All IsLight lines
