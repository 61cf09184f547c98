-- What a list of counted sets says: its sets and their counts, or its first fault.
use Rattle.std.specs.Prelude.{ℕ, ◌+◌, Bool, false, ◌&&◌, not, nat_le, nat_lt, ◌==◌, if◌then◌else◌, List, [], ◌∷◌, ◌++◌, length, map, take, Option, Some, None, Result, Ok, Err}
use Rattle.std.specs.List.{list_all}
use Rattle.basket_sets.specs.Itemset.{rising}
use Rattle.basket_sets.specs.Number.{is_digit, value_of}
use Rattle.basket_sets.specs.Database.{MOST_WEIGHT}
use Rattle.basket_read.specs.declared.fault.ReadFault.{ReadFault}
use Rattle.basket_read.specs.declared.fault.ReadFault.TheVariants.{TooLong, Byte, Number, Count, NoCount}
use Rattle.basket_read.specs.declared.counted_line.CountedLine.{CountedLine}
use Rattle.basket_read.specs.Cut.{cut_at, parts_of}
use Rattle.basket_read.specs.Fimi.{is_blank, is_line_feed, is_nil, are_numbers, numbers_of, line_after, text_of, or_else, MOST_BYTES}
use Rattle.basket_read.specs.Grammar.{first_fault_by}
use Rattle.basket_read.specs.Fault.{result_and_then}

-- a set of a list, with its count if it has a whole one, and the number of its line
pub record ListedSet : Type 0 where
  pub set : List ℕ
  pub count : Option ℕ
  pub line : ℕ

-- the parentheses around a count
abbrev pub is_open : ℕ → Bool
is_open byte = byte == 40

abbrev pub is_close : ℕ → Bool
is_close byte = byte == 41

-- the digits of a count, or none: their value is not above the bound
abbrev pub is_count : List ℕ → Bool
is_count word = list_all is_digit word && nat_le (value_of word) MOST_WEIGHT

-- what follows the `(`, cut at each `)`: there is none and a count may end here, or there is one, with a count before it and only blanks after it
abbrev pub is_tail_of : List (List ℕ) → List ℕ → Bool
is_tail_of [] last = is_count last
is_tail_of (count ∷ []) last = not (is_nil count) && is_count count && list_all is_blank last
is_tail_of (count ∷ other ∷ others) last = false

-- what follows the `(` of a line
abbrev pub is_tail : List ℕ → Bool
is_tail tail = is_tail_of (cut_at is_close tail).ended (cut_at is_close tail).last

-- a line that is cut at each `(`: there is none, or there is one with numbers before it
abbrev pub is_line_of : List (List ℕ) → List ℕ → Bool
is_line_of [] last = are_numbers last
is_line_of (text ∷ []) last = are_numbers text && is_tail last
is_line_of (text ∷ other ∷ others) last = false

-- a line: blanks and numbers, perhaps before a count, which may not have ended
abbrev pub is_line : List ℕ → Bool
is_line line = is_line_of (cut_at is_open line).ended (cut_at is_open line).last

-- a good text: each of its lines is one
abbrev pub is_good : List ℕ → Bool
is_good text = list_all is_line (parts_of is_line_feed text)

-- the fault of a digit after a `(`, where what follows that is cut at each `)`: it takes the count above the bound, or comes after it
abbrev pub count_fault : List (List ℕ) → ℕ → ℕ → ReadFault
count_fault [] line byte = Count line
count_fault (count ∷ others) line byte = Byte line byte

-- the fault of a digit, where its line is cut at each `(`: it takes a number above the bound, or comes after a `(`
abbrev pub digit_fault : List (List ℕ) → List ℕ → ℕ → ℕ → ReadFault
digit_fault [] last line byte = Number line
digit_fault (text ∷ others) last line byte = count_fault (cut_at is_close last).ended line byte

-- the fault of a byte that ends a good text badly
abbrev pub fault_in_line : List ℕ → ℕ → ℕ → ReadFault
fault_in_line line number byte = if is_digit byte then digit_fault (cut_at is_open line).ended (cut_at is_open line).last number byte else Byte number byte

abbrev pub fault_at : List ℕ → ℕ → ReadFault
fault_at before byte = fault_in_line (cut_at is_line_feed before).last (line_after before) byte

-- the same where the first line of the text has this number
abbrev pub fault_at_from : ℕ → List ℕ → ℕ → ReadFault
fault_at_from line before byte = fault_in_line (cut_at is_line_feed before).last (length (cut_at is_line_feed before).ended + line) byte

-- the first fault in a text that goes on after a good prefix: at the first byte with which the text so far is not good
abbrev pub fault_after : List ℕ → List ℕ → Option ReadFault
fault_after before text = first_fault_by is_good fault_at before text

-- the first fault of a text
abbrev pub first_fault : List ℕ → Option ReadFault
first_fault text = fault_after [] text

-- the same where its first line has this number
abbrev pub fault_from : ℕ → List ℕ → Option ReadFault
fault_from line text = first_fault_by is_good (fault_at_from line) [] text

-- the fault of the bytes: the first in as many of them as an input may have, else that there are more
abbrev pub fault_in : List ℕ → Option ReadFault
fault_in bytes = or_else (first_fault (text_of (take MOST_BYTES bytes))) (if nat_lt MOST_BYTES (length bytes) then Some TooLong else None)

-- the entry of a line's numbers, its count and its number
abbrev pub entry : List ℕ → Option ℕ → ℕ → ListedSet
entry numbers count line = record { set = rising numbers; count = count; line = line }

-- the count before the first `)` of a tail that is cut there, if it has one
abbrev pub count_before : List (List ℕ) → Option ℕ
count_before [] = None
count_before (count ∷ others) = Some (value_of count)

-- numbers without a count say a set, if there are any
abbrev pub bare_entry : List ℕ → ℕ → List ListedSet
bare_entry [] line = []
bare_entry (number ∷ numbers) line = entry (number ∷ numbers) None line ∷ []

-- what a line says that is cut at each `(`, by its number
abbrev pub entry_of_parts : List (List ℕ) → List ℕ → ℕ → List ListedSet
entry_of_parts [] last line = bare_entry (numbers_of last) line
entry_of_parts (text ∷ others) last line = entry (numbers_of text) (count_before (cut_at is_close last).ended) line ∷ []

-- what a line says, by its number
abbrev pub entry_of : List ℕ → ℕ → List ListedSet
entry_of text line = entry_of_parts (cut_at is_open text).ended (cut_at is_open text).last line

-- what lines say of which the first has this number
abbrev pub entries_from : ℕ → List (List ℕ) → List ListedSet
entries_from line [] = []
entries_from line (text ∷ texts) = entry_of text line ++ entries_from (line + 1) texts

-- what a good text says
abbrev pub entries_of : List ℕ → List ListedSet
entries_of text = entries_from 1 (parts_of is_line_feed text)

-- the sets of the entries, with or without their counts
abbrev pub sets_among : List ListedSet → List (List ℕ)
sets_among entries = map (λ (entry : ListedSet). entry.set) entries

-- a set with its count before others, or the fault that it has none
abbrev pub counted_before : List ℕ → Option ℕ → ℕ → Result (List CountedLine) ReadFault → Result (List CountedLine) ReadFault
counted_before set None line later = Err (NoCount line)
counted_before set (Some count) line (Ok later) = Ok (record { set = set; count = count; line = line } ∷ later)
counted_before set (Some count) line (Err fault) = Err fault

-- the entries with their counts, or the first that has none
abbrev pub counts_among : List ListedSet → Result (List CountedLine) ReadFault
counts_among [] = Ok []
counts_among (entry ∷ entries) = counted_before entry.set entry.count entry.line (counts_among entries)

-- the entries, or the fault that was found before
abbrev pub entries_said : Option ReadFault → List ListedSet → Result (List ListedSet) ReadFault
entries_said (Some fault) entries = Err fault
entries_said None entries = Ok entries

-- what the bytes say, or their first fault
abbrev pub entries_in : List ℕ → Result (List ListedSet) ReadFault
entries_in bytes = entries_said (fault_in bytes) (entries_of (text_of bytes))

-- the sets of the bytes, or their first fault
abbrev pub sets_of_bytes : List ℕ → Result (List (List ℕ)) ReadFault
sets_of_bytes bytes = result_and_then (λ entries. Ok (sets_among entries)) (entries_in bytes)

-- the sets of the bytes with their counts, or their first fault, or the first set without a count
abbrev pub counts_of : List ℕ → Result (List CountedLine) ReadFault
counts_of bytes = result_and_then counts_among (entries_in bytes)
