-- What a text that is being read stands for.
use Rattle.std.specs.Prelude.{◌≡◌, ℕ, Bool, List, [], ◌++◌, length, None, Result, MatchResult, unwrap_or}
use Rattle.std.specs.List.{flat_map}
use Rattle.basket_sets.specs.declared.weighted.Weighted.{Weighted}
use Rattle.basket_read.specs.declared.fault.ReadFault.{ReadFault}
use Rattle.basket_read.specs.declared.text.Text.{Text}
use Rattle.basket_read.specs.Cut.{cut_at}
use Rattle.basket_read.specs.Fault.{ReturnsFault}
use Rattle.basket_read.specs.Fimi.{is_line_feed, basket_of, basket_of_numbers, first_fault}
use Rattle.basket_read.specs.GatheredBaskets.{HasGathered}
use Rattle.basket_read.specs.Line.{LineState, line_state, line_at}

-- the text that was read is of these bytes, and has no fault; its baskets are counted or not
pub record IsTextSoFar (text : Text) (counting : Bool) (bytes : List ℕ) : Type 0 where
  pub faultless : first_fault bytes ≡ None
  pub lines : text.lines ≡ length (cut_at is_line_feed bytes).ended
  pub gathered : HasGathered text.gathered counting (flat_map basket_of (cut_at is_line_feed bytes).ended)
  pub line : line_state text.line ≡ line_at (cut_at is_line_feed bytes).last

-- the text that was read is of these bytes
abbrev pub IsSomeText : List ℕ → Text → Type 0
IsSomeText bytes text = (counting : Bool) × IsTextSoFar text counting bytes

-- what a line says that has ended
abbrev pub basket_said : LineState → List Weighted
basket_said line = basket_of_numbers line.numbers.ended (unwrap_or line.weight 1)

-- a text that reads more has these bytes after those that it had, or the fault is the first one of them all
abbrev pub ReadsOn : {A : Type 0} → Text → List ℕ → Result A ReadFault → (A → Text) → Type 0
ReadsOn text piece result new = (counting : Bool) (bytes : List ℕ) → IsTextSoFar text counting bytes →
    MatchResult result (λ a. IsTextSoFar (new a) counting (bytes ++ piece)) (λ fault. ReturnsFault fault (first_fault (bytes ++ piece)))

-- the bytes end a line, whatever stands before them
abbrev pub EndsLine : List ℕ → Type 0
EndsLine bytes = (before : List ℕ) → (cut_at is_line_feed (before ++ bytes)).last ≡ []
