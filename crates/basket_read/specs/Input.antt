-- What an input that comes in pieces stands for.
use Rattle.std.specs.Prelude.{◌≡◌, ◌≤◌, ℕ, Bool, not, if◌then◌else◌, List, [], ◌++◌, length, Result, MatchResult}
use Rattle.basket_read.specs.declared.fault.ReadFault.{ReadFault}
use Rattle.basket_read.specs.declared.input.Input.{Input}
use Rattle.basket_read.specs.Fault.{ReturnsFault}
use Rattle.basket_read.specs.Fimi.{text_of, may_be_mark, settled_fault, MOST_BYTES}
use Rattle.basket_read.specs.Text.{IsTextSoFar}

-- the input that was read is of these bytes, and has no fault that is settled; its baskets are counted or not
pub record IsInputSoFar (input : Input) (counting : Bool) (bytes : List ℕ) : Type 0 where
  pub decided : input.decided ≡ not (may_be_mark bytes)
  pub taken : input.taken ≡ length bytes
  pub few : length bytes ≤ MOST_BYTES
  pub text : IsTextSoFar input.text counting (if input.decided then text_of bytes else [])

-- an input that reads more has these bytes after those that it had, or the fault is the one that they all have whatever follows
abbrev pub TakesOn : Input → List ℕ → Result (Unit {0}) ReadFault → Input → Type 0
TakesOn input piece result new = (counting : Bool) (bytes : List ℕ) → IsInputSoFar input counting bytes →
    MatchResult result (λ _. IsInputSoFar new counting (bytes ++ piece)) (λ fault. ReturnsFault fault (settled_fault (bytes ++ piece)))
