-- The sets of lines in report order that meet a minimum.
use Rattle.std.proofs.Common.{◌≡◌, List, map, filter, arith}
use Rattle.std.proofs.lemmas.Simd.{map-map}
use Rattle.basket_read.specs.declared.counted_line.CountedLine.{CountedLine}
use Rattle.basket_sets.specs.declared.minimum.Minimum.{Minimum}
use Rattle.basket_sets.specs.Order.{IsInReportOrder}
use Rattle.basket_sets.proofs.theory.Items.{filter-map}
use Rattle.basket_parts.specs.Frequent.{is_frequent_line, counted_of}
use Rattle.basket_parts.specs.CombinedCounts.{sets_of, line_for, total_in, is_frequent_in, frequent_in}
use Rattle.basket_parts.proofs.SameLemmas.{together_already}

-- they are the lines that meet it
pub frequent_lines : (lines : List CountedLine) (minimum : Minimum) → IsInReportOrder (map (λ (line : CountedLine). line.set) lines)
    → map counted_of (filter (is_frequent_line minimum (total_in lines)) lines) ≡ frequent_in lines minimum
frequent_lines lines minimum up = grind (arith, together_already lines up, map-map counted_of (line_for lines) (filter (is_frequent_in lines minimum) (sets_of lines)), filter-map)
