-- How a line goes on.
use Rattle.std.proofs.lemmas.Grind.{common_steps}
use Rattle.std.proofs.Common.{◌≡◌, ℕ, true, false, List, [], ◌∷◌, ◌++◌, Some, refl, arith}
use Rattle.basket_read.specs.Cut.{cut_at}
use Rattle.basket_read.specs.Fimi.{is_line_feed, are_numbers}
use Rattle.basket_counts.specs.declared.line.SetLine.{SetLine}
use Rattle.basket_counts.specs.declared.tail.CountSuffix.{CountSuffix}
use Rattle.basket_counts.specs.Counts.{is_open, is_tail, is_line, digit_fault, entry_of}
use Rattle.basket_counts.specs.Line.{tail_at, tail_with, line_at, is_there, said_at, digit_fault_in, IsLineSoFar}
use Rattle.basket_read.proofs.theory.Cuts.{cut}
use Rattle.basket_read.proofs.theory.Grammar as grammar
use Rattle.basket_read.proofs.theory.Numbers.{numbers_joined}

-- no `(` stands in what follows one
no_open : (tail : List ℕ) (byte : ℕ) → is_tail (tail ++ byte ∷ []) ≡ true → is_open byte ≡ false
no_open tail byte good = grind (arith, common_steps)

-- numbers go on before a `(`
pub numbers_on : (line run : List ℕ) → are_numbers ((cut_at is_open line).last ++ run) ≡ true → cut_at is_open (line ++ run) ≡ cut (cut_at is_open line).ended ((cut_at is_open line).last ++ run)
numbers_on = numbers_joined 40 refl refl

-- ---- a line that is cut at each `(`

module _ (old : SetLine) (line : List ℕ) (so_far : IsLineSoFar old line) where
  abbrev last : List ℕ
  last = (cut_at is_open line).last

  module _ (some : is_there old.tail ≡ true) where
    pub tail_good : is_tail last ≡ true
    tail_good = grind (arith, common_steps)

    pub tail_so_far : old.tail ≡ tail_at last
    tail_so_far = grind (arith, common_steps)

    -- a line that a byte was asked of, by the tail with it
    pub tail_took : (new : SetLine) (byte : ℕ) (next : CountSuffix) → Some next ≡ tail_with last byte → new.tail ≡ next → new.numbers ≡ old.numbers → IsLineSoFar new (line ++ byte ∷ [])
    tail_took new byte next is tail numbers =
        let k = grammar.chosen next (tail_at (last ++ byte ∷ [])) (is_tail (last ++ byte ∷ [])) is in let other = no_open last byte k.0 in grind (arith, common_steps)

-- a line feed stands in no line
pub no_line_feed : (line : List ℕ) (byte : ℕ) → is_line (line ++ byte ∷ []) ≡ true → is_line_feed byte ≡ false
no_line_feed line byte good = grind (arith, common_steps)

-- ---- what a line says where it ends

pub line_says : (line : List ℕ) (nth : ℕ) → said_at (line_at line) nth ≡ entry_of line nth
line_says line nth = grind (arith, common_steps)

-- the fault of a digit that can't follow it
pub digit_says : (line : List ℕ) (number byte : ℕ) → digit_fault_in (line_at line).tail number byte ≡ digit_fault (cut_at is_open line).ended (cut_at is_open line).last number byte
digit_says line number byte = grind (arith, common_steps)
