-- What a FIMI text says: its weighted baskets, or its first fault.
use Rattle.std.specs.Prelude.{ℕ, ◌+◌, Bool, true, false, ◌&&◌, ◌||◌, not, nat_eq, nat_le, nat_lt, ◌==◌, if◌then◌else◌, List, [], ◌∷◌, length, map, filter, take, drop, Option, Some, None, Result, Ok, Err}
use Rattle.std.specs.List.{list_all, flat_map, starts_with}
use Rattle.std.specs.Cmp.Lexicographic.{pointwise}
use Rattle.basket_sets.specs.declared.weighted.Weighted.{Weighted}
use Rattle.basket_sets.specs.Itemset.{rising}
use Rattle.basket_sets.specs.Number.{is_digit, value_of}
use Rattle.basket_sets.specs.Support.{total_of}
use Rattle.basket_sets.specs.Database.{weighted, MOST_WEIGHT}
use Rattle.basket_read.specs.declared.fault.ReadFault.{ReadFault}
use Rattle.basket_read.specs.declared.fault.ReadFault.TheVariants.{TooLong, Byte, Number, Heavy}
use Rattle.basket_read.specs.Cut.{cut_at, parts_of}
use Rattle.basket_read.specs.Grammar.{first_fault_by}

-- a blank is a space, a tab or a carriage return
abbrev pub is_blank : ℕ → Bool
is_blank byte = byte == 32 || byte == 9 || byte == 13

-- a line feed ends a line
abbrev pub is_line_feed : ℕ → Bool
is_line_feed byte = byte == 10

-- an `x` ends a weight
abbrev pub is_times : ℕ → Bool
is_times byte = byte == 120

-- the greatest number, and the greatest weight of one basket
abbrev pub MOST_NUMBER : ℕ
MOST_NUMBER = 4294967295

-- whether a list is empty
abbrev pub is_nil : List ℕ → Bool
is_nil [] = true
is_nil (x ∷ xs) = false

-- a part of a line between blanks is a number, or empty: digits whose value is not above the bound
abbrev pub is_number : List ℕ → Bool
is_number word = list_all is_digit word && nat_le (value_of word) MOST_NUMBER

-- a text of blanks and numbers
abbrev pub are_numbers : List ℕ → Bool
are_numbers text = list_all is_number (parts_of is_blank text)

-- the values of its numbers
abbrev pub numbers_of : List ℕ → List ℕ
numbers_of text = map value_of (filter (λ word. not (is_nil word)) (parts_of is_blank text))

-- what stands before an `x`: blanks, and then a number from 1 on that reaches up to the `x`
abbrev pub is_weight : List ℕ → Bool
is_weight text =
    list_all is_nil (cut_at is_blank text).ended && is_number (cut_at is_blank text).last && nat_le 1 (value_of (cut_at is_blank text).last)

-- a line that is cut at each `x`: there is none, or there is one with a weight before it
abbrev pub is_line_of : List (List ℕ) → List ℕ → Bool
is_line_of [] numbers = are_numbers numbers
is_line_of (weight ∷ []) numbers = is_weight weight && are_numbers numbers
is_line_of (weight ∷ other ∷ others) numbers = false

-- a line: blanks and numbers, perhaps after a weight
abbrev pub is_line : List ℕ → Bool
is_line line = is_line_of (cut_at is_times line).ended (cut_at is_times line).last

-- the weight of a line is the number before its `x`, else 1
abbrev pub weight_before : List (List ℕ) → ℕ
weight_before [] = 1
weight_before (weight ∷ others) = value_of (cut_at is_blank weight).last

-- a line's basket, if it has a number
abbrev pub basket_of_numbers : List ℕ → ℕ → List Weighted
basket_of_numbers [] weight = []
basket_of_numbers (number ∷ numbers) weight = weighted (rising (number ∷ numbers)) weight ∷ []

abbrev pub basket_of : List ℕ → List Weighted
basket_of line = basket_of_numbers (numbers_of (cut_at is_times line).last) (weight_before (cut_at is_times line).ended)

-- a good text: each of its lines is one
abbrev pub is_good : List ℕ → Bool
is_good text = list_all is_line (parts_of is_line_feed text)

-- the baskets of a good text: those of its lines
abbrev pub baskets_of : List ℕ → List Weighted
baskets_of text = flat_map basket_of (parts_of is_line_feed text)

-- the number of the line in which a byte stands: one more than the lines that ended before it
abbrev pub line_after : List ℕ → ℕ
line_after before = length (cut_at is_line_feed before).ended + 1

-- the fault of a byte that ends a good text badly
abbrev pub fault_at : List ℕ → ℕ → ReadFault
fault_at before byte = if is_digit byte then Number (line_after before) else Byte (line_after before) byte

-- the first fault in a text that goes on after a good prefix: at the first byte with which the text so far is not good
abbrev pub fault_after : List ℕ → List ℕ → Option ReadFault
fault_after before text = first_fault_by is_good fault_at before text

-- the first fault of a text
abbrev pub first_fault : List ℕ → Option ReadFault
first_fault text = fault_after [] text

-- the byte order mark
abbrev pub MARK : List ℕ
MARK = 239 ∷ 187 ∷ 191 ∷ []

-- the text of some bytes: what follows the mark, if they begin with it
abbrev pub text_of : List ℕ → List ℕ
text_of bytes = if starts_with nat_eq bytes MARK then drop 3 bytes else bytes

-- how many bytes an input has at most
abbrev pub MOST_BYTES : ℕ
MOST_BYTES = 4294967295

-- the first of two faults
abbrev pub or_else : Option ReadFault → Option ReadFault → Option ReadFault
or_else (Some fault) later = Some fault
or_else None later = later

-- the fault that the bytes have if none follow: the first in as many of them as an input may have, else that there are more
abbrev pub fault_in : List ℕ → Option ReadFault
fault_in bytes = or_else (first_fault (text_of (take MOST_BYTES bytes))) (if nat_lt MOST_BYTES (length bytes) then Some TooLong else None)

-- the baskets if they weigh no more than a database may
abbrev pub if_light : List Weighted → Result (List Weighted) ReadFault
if_light baskets = if nat_le (total_of baskets) MOST_WEIGHT then Ok baskets else Err Heavy

-- the baskets of the bytes, or their first fault
abbrev pub answer_of : Option ReadFault → List Weighted → Result (List Weighted) ReadFault
answer_of (Some fault) baskets = Err fault
answer_of None baskets = if_light baskets

abbrev pub fimi_of : List ℕ → Result (List Weighted) ReadFault
fimi_of bytes = answer_of (fault_in bytes) (baskets_of (text_of bytes))

-- bytes that are not yet the whole mark
abbrev pub may_be_mark : List ℕ → Bool
may_be_mark bytes = is_nil bytes || pointwise nat_eq bytes (239 ∷ []) || pointwise nat_eq bytes (239 ∷ 187 ∷ [])

-- the fault that the bytes have whatever follows
abbrev pub settled_fault : List ℕ → Option ReadFault
settled_fault bytes = if may_be_mark bytes then None else fault_in bytes
