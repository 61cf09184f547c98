-- How a line goes on.
use Rattle.std.proofs.lemmas.Grind.{common_steps}
use Rattle.std.proofs.Common.{◌≡◌, ℕ, ◌≤◌, Bool, true, false, leb, List, [], ◌∷◌, ◌++◌, Option, Some, None, refl, arith}
use Rattle.std.specs.Prelude.{unwrap_or}
use Rattle.std.specs.List.{list_all}
use Rattle.std.proofs.lemmas.Bool.{and_parts}
use Rattle.basket_sets.proofs.theory.Numerals.{all_push, and_true}
use Rattle.basket_read.specs.declared.line.Line.{Line}
use Rattle.basket_read.specs.Cut.{cut_at}
use Rattle.basket_read.specs.Fimi.{is_times, is_nil, are_numbers, is_weight, is_line}
use Rattle.basket_read.specs.Line.{IsLineSoFar, IsTaken}
use Rattle.basket_read.specs.Numbers.{numbers_state, values_of, lone_number, IsNumbersSoFar, AreTaken}
use Rattle.basket_read.proofs.theory.Cuts.{cut, cut_ended}
use Rattle.basket_read.proofs.theory.Numbers.{numbers_joined}

-- ---- what comes after a weight, if there is one

-- numbers go on after a weight
pub numbers_on : (line run : List ℕ) → are_numbers ((cut_at is_times line).last ++ run) ≡ true → cut_at is_times (line ++ run) ≡ cut (cut_at is_times line).ended ((cut_at is_times line).last ++ run)
numbers_on = numbers_joined 120 refl refl

-- ---- an `x`

-- whether an `x` ends a weight, by the weight of the line and by its only number
abbrev pub ends_weight : Option ℕ → Option ℕ → Bool
ends_weight (Some weight) only = false
ends_weight None only = leb 1 (unwrap_or only 0)

no_values : (words : List (List ℕ)) → list_all is_nil words ≡ is_nil (values_of words)
no_values [] = refl
no_values ([] ∷ words) = no_values words
no_values ((d ∷ word) ∷ words) = refl

module _ (old : Line) (line : List ℕ) (so_far : IsLineSoFar old line) where
  abbrev heads : List (List ℕ)
  heads = (cut_at is_times line).ended

  abbrev last : List ℕ
  last = (cut_at is_times line).last

  pub numbers_so_far : IsNumbersSoFar old.numbers last
  numbers_so_far = grind (arith, common_steps)

  -- a byte that was asked of the numbers
  pub took : (taken : Bool) (new : Line) (byte : ℕ) → is_times byte ≡ false → new.weight ≡ old.weight → AreTaken taken new.numbers (last ++ byte ∷ []) → IsTaken taken new (line ++ byte ∷ [])
  took taken new byte other same numbers = grind (arith, common_steps)

  module _ (byte : ℕ) (times : is_times byte ≡ true) where
    ended : cut_at is_times (line ++ byte ∷ []) ≡ cut (heads ++ last ∷ []) []
    ended = cut_ended is_times line byte times

    pub times_told : is_line (line ++ byte ∷ []) ≡ ends_weight old.weight (lone_number (numbers_state old.numbers))
    times_told = grind (arith, and_true (is_weight last), ended, no_values, and_parts, all_push)

    pub takes_times : (new : Line) (weight : ℕ) → old.weight ≡ None → unwrap_or (lone_number (numbers_state old.numbers)) 0 ≡ weight → 1 ≤ weight → is_line (line ++ byte ∷ []) ≡ true
        → new.weight ≡ Some weight → IsNumbersSoFar new.numbers [] → IsLineSoFar new (line ++ byte ∷ [])
    takes_times new weight none only some good new_weight numbers = grind (arith, common_steps)
