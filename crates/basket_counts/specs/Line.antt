-- What has been read of a line, and how it goes on.
use Rattle.std.specs.Prelude.{◌≡◌, ℕ, ◌+◌, ◌*◌, Bool, true, false, nat_le, if◌then◌else◌, List, [], ◌∷◌, ◌++◌, Option, Some, None}
use Rattle.basket_sets.specs.Number.{value_of}
use Rattle.basket_sets.specs.Database.{MOST_WEIGHT}
use Rattle.basket_read.specs.Cut.{cut_at}
use Rattle.basket_read.specs.Numbers.{NumbersState, numbers_state, numbers_at, number_ended}
use Rattle.basket_read.specs.declared.fault.ReadFault.{ReadFault}
use Rattle.basket_read.specs.declared.fault.ReadFault.TheVariants.{Byte, Number as TooGreat, Count as TooMany}
use Rattle.basket_counts.specs.declared.line.SetLine.{SetLine}
use Rattle.basket_counts.specs.declared.tail.CountSuffix.{CountSuffix}
use Rattle.basket_counts.specs.declared.tail.CountSuffix.TheVariants.{Absent, Opened, Count, Closed}
use Rattle.basket_counts.specs.Counts.{ListedSet, is_open, is_close, is_tail, is_line, bare_entry, entry}

-- the numbers of a line, and what follows them
pub record LineState : Type 0 where
  pub numbers : NumbersState
  pub tail : CountSuffix

abbrev pub line_state : SetLine → LineState
line_state line = record { numbers = numbers_state line.numbers; tail = line.tail }

-- what the digits of a count are, after the `(`
abbrev pub count_begun : List ℕ → CountSuffix
count_begun [] = Opened
count_begun (byte ∷ word) = Count (value_of (byte ∷ word))

-- what follows the `(`, cut at each `)`
abbrev pub tail_in : List (List ℕ) → List ℕ → CountSuffix
tail_in [] last = count_begun last
tail_in (count ∷ others) last = Closed (value_of count)

abbrev pub tail_at : List ℕ → CountSuffix
tail_at tail = tail_in (cut_at is_close tail).ended (cut_at is_close tail).last

-- the same with one byte more, if it can stand there
abbrev pub tail_with : List ℕ → ℕ → Option CountSuffix
tail_with tail byte = if is_tail (tail ++ byte ∷ []) then Some (tail_at (tail ++ byte ∷ [])) else None

-- what has been read of a line that is cut at each `(`
abbrev pub state_of_parts : List (List ℕ) → List ℕ → LineState
state_of_parts [] last = record { numbers = numbers_at last; tail = Absent }
state_of_parts (text ∷ others) last = record { numbers = number_ended (numbers_at text); tail = tail_at last }

-- what has been read of a line at the end of these bytes
abbrev pub line_at : List ℕ → LineState
line_at line = state_of_parts (cut_at is_open line).ended (cut_at is_open line).last

-- a line whose last number has ended
abbrev pub line_ended : LineState → LineState
line_ended line = record { numbers = number_ended line.numbers; tail = line.tail }

-- the line that was read is of these bytes, which are a line so far
pub record IsLineSoFar (line : SetLine) (bytes : List ℕ) : Type 0 where
  pub good : is_line bytes ≡ true
  pub state : line_state line ≡ line_at bytes

-- the bytes up to the last were taken, or that one can't stand there
abbrev pub IsTaken : Bool → SetLine → List ℕ → Type 0
IsTaken true line bytes = IsLineSoFar line bytes
IsTaken false line bytes = is_line bytes ≡ false

-- a count with one digit more, if it is not above the bound
abbrev pub count_with : ℕ → ℕ → Option CountSuffix
count_with count digit = if nat_le (count * 10 + digit) MOST_WEIGHT then Some (Count (count * 10 + digit)) else None

-- whether the line has a `(`
abbrev pub is_there : CountSuffix → Bool
is_there Absent = false
is_there Opened = true
is_there (Count count) = true
is_there (Closed count) = true

-- the count that has ended
abbrev pub count_in : CountSuffix → Option ℕ
count_in Absent = None
count_in Opened = None
count_in (Count count) = None
count_in (Closed count) = Some count

-- what the line says where it ends, by its number
abbrev pub said_by : CountSuffix → List ℕ → ℕ → List ListedSet
said_by tail numbers line = if is_there tail then entry numbers (count_in tail) line ∷ [] else bare_entry numbers line

abbrev pub said_at : LineState → ℕ → List ListedSet
said_at state line = said_by state.tail (number_ended state.numbers).ended line

-- the fault of a digit that can't follow
abbrev pub digit_fault_in : CountSuffix → ℕ → ℕ → ReadFault
digit_fault_in Absent line byte = TooGreat line
digit_fault_in Opened line byte = TooMany line
digit_fault_in (Count count) line byte = TooMany line
digit_fault_in (Closed count) line byte = Byte line byte
