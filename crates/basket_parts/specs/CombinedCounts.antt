-- Lists of counted sets, put together.
use Rattle.std.specs.Prelude.{ℕ, Bool, List, [], ◌∷◌, Option, Some, None, Result, Ok, Err, if◌then◌else◌, map, filter, length, ◌&&◌, ◌==◌, not, nat_eq, nat_lt}
use Rattle.std.specs.Cmp.Lexicographic.{pointwise}
use Rattle.std.specs.List.{list_any, sum_by}
use Rattle.std.specs.Ordering.{is_lt}
use Rattle.basket_read.specs.declared.counted_line.CountedLine.{CountedLine}
use Rattle.basket_read.specs.declared.fault.ReadFault.{ReadFault}
use Rattle.basket_read.specs.declared.fault.ReadFault.TheVariants.{Heavy}
use Rattle.basket_sets.specs.declared.counted.Counted.{Counted}
use Rattle.basket_sets.specs.declared.minimum.Minimum.{Minimum}
use Rattle.basket_sets.specs.Database.{MOST_WEIGHT}
use Rattle.basket_sets.specs.Minimum.{meets}
use Rattle.basket_sets.specs.Order.{report_order}

-- whether the line has this set
abbrev pub is_of : List ℕ → CountedLine → Bool
is_of set line = pointwise nat_eq line.set set

-- whether some line has this set
abbrev pub has_set : List CountedLine → List ℕ → Bool
has_set lines set = list_any (is_of set) lines

-- the sum of the counts of the lines that have this set
abbrev pub count_in : List CountedLine → List ℕ → ℕ
count_in lines set = sum_by (λ line. if is_of set line then line.count else 0) lines

-- the number of the first line that has this set, and 0 where none has
abbrev pub line_in : List CountedLine → List ℕ → ℕ
line_in [] set = 0
line_in (line ∷ lines) set = if is_of set line then line.line else line_in lines set

-- a list of sets in report order with the set in its order, once
abbrev pub with_set : List ℕ → List (List ℕ) → List (List ℕ)
with_set set [] = set ∷ []
with_set set (first ∷ sets) =
    if is_lt (report_order set first) then set ∷ first ∷ sets else (if pointwise nat_eq set first then first ∷ sets else first ∷ with_set set sets)

-- the sets of the lines in report order, each once
abbrev pub sets_of : List CountedLine → List (List ℕ)
sets_of [] = []
sets_of (line ∷ lines) = with_set line.set (sets_of lines)

-- the one line that stands for all lines that have this set
abbrev pub line_for : List CountedLine → List ℕ → CountedLine
line_for lines set = record { set = set; count = count_in lines set; line = line_in lines set }

-- the lines put together: each set once, in report order
abbrev pub combined : List CountedLine → List CountedLine
combined lines = map (line_for lines) (sets_of lines)

-- whether the count is above what a set may have
abbrev pub is_heavy : CountedLine → Bool
is_heavy line = nat_lt MOST_WEIGHT line.count

-- the lines put together, where no count is above what a set may have
abbrev pub combined_of : List CountedLine → Result (List CountedLine) ReadFault
combined_of lines = if list_any is_heavy (combined lines) then Err Heavy else Ok (combined lines)

-- the count of the empty set
abbrev pub total_in : List CountedLine → ℕ
total_in lines = count_in lines []

-- the count of a set that some line has
abbrev pub count_if : List CountedLine → List ℕ → Option ℕ
count_if lines set = if has_set lines set then Some (count_in lines set) else None

-- whether the set has an item and its count meets the minimum
abbrev pub is_frequent_in : List CountedLine → Minimum → List ℕ → Bool
is_frequent_in lines minimum set = not (length set == 0) && meets minimum (count_in lines set) (total_in lines)

-- the set with its count
abbrev pub counted_in : List CountedLine → List ℕ → Counted
counted_in lines set = record { set = set; count = count_in lines set }

-- the nonempty sets that meet the minimum, with their counts, in report order
abbrev pub frequent_in : List CountedLine → Minimum → List Counted
frequent_in lines minimum = map (counted_in lines) (filter (is_frequent_in lines minimum) (sets_of lines))
