-- What has been read of a line.
use Rattle.std.specs.Prelude.{◌≡◌, ℕ, Bool, true, false, List, [], ◌∷◌, Option, Some, None}
use Rattle.basket_sets.specs.Number.{value_of}
use Rattle.basket_read.specs.declared.line.Line.{Line}
use Rattle.basket_read.specs.Cut.{cut_at}
use Rattle.basket_read.specs.Fimi.{is_blank, is_times, is_line}
use Rattle.basket_read.specs.Numbers.{NumbersState, numbers_state, numbers_at, number_ended}

-- the weight of a line, if it has one, and the numbers after it
pub record LineState : Type 0 where
  pub weight : Option ℕ
  pub numbers : NumbersState

abbrev pub line_state : Line → LineState
line_state line = record { weight = line.weight; numbers = numbers_state line.numbers }

-- the weight of a line that has these parts before an `x`
abbrev pub weight_in : List (List ℕ) → Option ℕ
weight_in [] = None
weight_in (weight ∷ others) = Some (value_of (cut_at is_blank weight).last)

-- what has been read of a line at the end of these bytes
abbrev pub line_at : List ℕ → LineState
line_at line = record { weight = weight_in (cut_at is_times line).ended; numbers = numbers_at (cut_at is_times line).last }

-- a line whose last number has ended
abbrev pub line_ended : LineState → LineState
line_ended line = record { weight = line.weight; numbers = number_ended line.numbers }

-- the line that was read is of these bytes, which are a line so far
pub record IsLineSoFar (line : Line) (bytes : List ℕ) : Type 0 where
  pub good : is_line bytes ≡ true
  pub state : line_state line ≡ line_at bytes

-- the bytes up to the last were taken, or that one can't stand there
abbrev pub IsTaken : Bool → Line → List ℕ → Type 0
IsTaken true line bytes = IsLineSoFar line bytes
IsTaken false line bytes = is_line bytes ≡ false
