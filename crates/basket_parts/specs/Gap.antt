-- Sets of which a subset is missing, or has a lower count.
use Rattle.std.specs.Prelude.{ℕ, ◌-◌, Bool, List, Option, Some, None, option_map, length, ◌&&◌, ◌==◌, not, nat_lt}
use Rattle.std.specs.List.{list_any, find}
use Rattle.basket_read.specs.declared.counted_line.CountedLine.{CountedLine}
use Rattle.basket_read.specs.declared.fault.ReadFault.{ReadFault}
use Rattle.basket_read.specs.declared.fault.ReadFault.TheVariants.{Subset}
use Rattle.basket_sets.specs.declared.minimum.Minimum.{Minimum}
use Rattle.basket_sets.specs.Subsets.{subsets_of_size}
use Rattle.basket_parts.specs.CombinedCounts.{count_in, count_if, line_in, frequent_in, total_in}
use Rattle.basket_parts.specs.Frequent.{is_frequent_line}

-- whether a subset with this count, if it is there, shows a gap below a count: it is lower, or a nonempty subset isn't there
abbrev pub is_gap : ℕ → List ℕ → Option ℕ → Bool
is_gap count subset (Some lower) = nat_lt lower count
is_gap count subset None = not (length subset == 0)

-- whether some subset of the set with one item less shows a gap below the count
abbrev pub has_gap_below : List CountedLine → ℕ → List ℕ → Bool
has_gap_below lines count set = list_any (λ subset. is_gap count subset (count_if lines subset)) (subsets_of_size (length set - 1) set)

-- whether some subset of the set with one item less is there with a lower count, or isn't there and isn't empty
abbrev pub has_gap : List CountedLine → List ℕ → Bool
has_gap lines set = has_gap_below lines (count_in lines set) set

-- the first of the frequent sets that has a gap, by the number of its line
abbrev pub first_gap : List CountedLine → Minimum → Option ReadFault
first_gap lines minimum = option_map (λ counted. Subset (line_in lines counted.set)) (find (λ counted. has_gap lines counted.set) (frequent_in lines minimum))

-- whether the line's set is frequent and has a gap
abbrev pub is_gap_line : List CountedLine → Minimum → CountedLine → Bool
is_gap_line lines minimum line = is_frequent_line minimum (total_in lines) line && has_gap_below lines line.count line.set
