-- What putting together keeps.
use Rattle.std.specs.Prelude.{◌≡◌, ℕ, ◌+◌, List, ◌++◌}
use Rattle.basket_read.specs.declared.counted_line.CountedLine.{CountedLine}
use Rattle.basket_sets.specs.declared.minimum.Minimum.{Minimum}
use Rattle.basket_parts.specs.CombinedCounts.{has_set, count_in, combined, frequent_in}

-- lines put together have the same sets
abbrev pub CombiningKeepsSets : Type 0
CombiningKeepsSets = (lines : List CountedLine) (set : List ℕ) → has_set (combined lines) set ≡ has_set lines set

-- with the same counts
abbrev pub CombiningKeepsCounts : Type 0
CombiningKeepsCounts = (lines : List CountedLine) (set : List ℕ) → count_in (combined lines) set ≡ count_in lines set

-- and the same sets meet a minimum
abbrev pub CombiningKeepsFrequent : Type 0
CombiningKeepsFrequent = (lines : List CountedLine) (minimum : Minimum) → frequent_in (combined lines) minimum ≡ frequent_in lines minimum

-- the counts over two lists add up
abbrev pub CountsAddUp : Type 0
CountsAddUp = (a b : List CountedLine) (set : List ℕ) → count_in (a ++ b) set ≡ count_in a set + count_in b set

-- lists that are put together can be put together as the lists themselves
abbrev pub CombiningByParts : Type 0
CombiningByParts = (a b : List CountedLine) → combined (combined a ++ combined b) ≡ combined (a ++ b)
