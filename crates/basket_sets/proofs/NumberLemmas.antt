-- The value of a text of digits, as it grows digit by digit.
use Rattle.std.proofs.Common.{◌≡◌, ℕ, ◌+◌, ◌*◌, ◌-◌, ◌<◌, ◌≤◌, List, [], ◌∷◌, length, take, drop, get_or, fold, None, arith}
use Rattle.std.proofs.lemmas.Grind.{common_steps}
use Rattle.std.proofs.lemmas.List.{take-append-drop}
use Rattle.std.proofs.lemmas.List.Sums.{fold_more}
use Rattle.basket_sets.specs.Number.{value_of, number_of}

grows : (value : ℕ) (digits : List ℕ) → value ≤ fold (λ v byte. v * 10 + (byte - 48)) value digits
grows value [] = omega arith
grows value (byte ∷ digits) = let rest = grows (value * 10 + (byte - 48)) digits in omega arith

front_value : (text : List ℕ) (n : ℕ) → value_of (take n text) ≤ value_of text
front_value text n = grind (arith, common_steps, take-append-drop n text, grows (value_of (take n text)) (drop n text))

-- the value so far with one more digit
value_more : (text : List ℕ) (i : ℕ) → i < length text → value_of (take (i + 1) text) ≡ value_of (take i text) * 10 + (get_or text i 0 - 48)
value_more text i below = fold_more (λ v byte. v * 10 + (byte - 48)) 0 text i 0 below

-- a front whose value with the next digit is above the bound settles that the number is above it
pub too_large : (bound : ℕ) (text : List ℕ) (i : ℕ) → i < length text → bound < value_of (take i text) * 10 + (get_or text i 0 - 48) → number_of bound text ≡ None
too_large bound text i below above = grind (arith, common_steps, value_more text i below, front_value text (i + 1))
