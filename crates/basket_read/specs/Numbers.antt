-- What has been read of blanks and numbers.
use Rattle.std.specs.Prelude.{◌≡◌, ℕ, ◌+◌, Bool, true, false, not, List, [], ◌∷◌, ◌++◌, map, filter, Option, Some, None}
use Rattle.basket_sets.specs.Number.{is_digit, value_of}
use Rattle.basket_read.specs.declared.byte_class.ByteClass.{ByteClass}
use Rattle.basket_read.specs.declared.byte_class.ByteClass.TheVariants.{Digit, Blank, Other}
use Rattle.basket_read.specs.declared.numbers.Numbers.{Numbers}
use Rattle.basket_read.specs.Cut.{Cut, cut_at}
use Rattle.basket_read.specs.Fimi.{is_blank, is_nil, are_numbers}

-- what a byte can be among numbers
abbrev pub IsClass : ByteClass → ℕ → Type 0
IsClass (Digit value) byte = (is_digit byte ≡ true) × (byte ≡ 48 + value)
IsClass Blank byte = is_blank byte ≡ true
IsClass Other byte = (is_digit byte ≡ false) × (is_blank byte ≡ false)

-- the number that has begun, if one has, and those that have ended
pub record NumbersState : Type 0 where
  pub begun : Option ℕ
  pub ended : List ℕ

abbrev pub numbers_state : Numbers → NumbersState
numbers_state numbers = record { begun = numbers.begun; ended = numbers.ended.items }

-- the value of a part that has not ended
abbrev pub begun_of : List ℕ → Option ℕ
begun_of [] = None
begun_of (byte ∷ word) = Some (value_of (byte ∷ word))

-- the values of parts that have ended
abbrev pub values_of : List (List ℕ) → List ℕ
values_of words = map value_of (filter (λ word. not (is_nil word)) words)

abbrev pub state_of : Cut → NumbersState
state_of parts = record { begun = begun_of parts.last; ended = values_of parts.ended }

-- what has been read at the end of these bytes
abbrev pub numbers_at : List ℕ → NumbersState
numbers_at text = state_of (cut_at is_blank text)

-- the same once the number that has begun has ended
abbrev pub ended_with : Option ℕ → List ℕ → List ℕ
ended_with None ended = ended
ended_with (Some value) ended = ended ++ value ∷ []

abbrev pub number_ended : NumbersState → NumbersState
number_ended state = record { begun = None; ended = ended_with state.begun state.ended }

-- the number that has begun, if none has ended before it
abbrev pub lone_of : Option ℕ → List ℕ → Option ℕ
lone_of begun [] = begun
lone_of begun (value ∷ ended) = None

abbrev pub lone_number : NumbersState → Option ℕ
lone_number state = lone_of state.begun state.ended

-- the numbers that were read are of these bytes, which are blanks and numbers
pub record IsNumbersSoFar (numbers : Numbers) (text : List ℕ) : Type 0 where
  pub good : are_numbers text ≡ true
  pub state : numbers_state numbers ≡ numbers_at text

-- the bytes up to the last were taken, or that one can't stand there
abbrev pub AreTaken : Bool → Numbers → List ℕ → Type 0
AreTaken true numbers text = IsNumbersSoFar numbers text
AreTaken false numbers text = are_numbers text ≡ false
