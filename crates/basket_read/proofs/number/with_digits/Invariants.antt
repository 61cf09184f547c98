use Rattle.std.proofs.Common.{◌≡◌, ◌≤◌, ℕ, List, ◌++◌, take, true}
use Rattle.std.specs.List.{list_all}
use Rattle.basket_sets.specs.Number.{is_digit, value_of}
use Rattle.basket_read.specs.Fimi.{MOST_NUMBER}
use Rattle.basket_read.proofs.number.with_digits.Given as goal

abbrev pub invariant-loop-index : goal.invariant-loop-index
invariant-loop-index l = record {
  bound : l.value ≤ MOST_NUMBER;
  digits : list_all is_digit (take l.index l.bytes) ≡ true;
  value : (word : List ℕ) → value_of word ≡ l.before → value_of (word ++ take l.index l.bytes) ≡ l.value;
}
