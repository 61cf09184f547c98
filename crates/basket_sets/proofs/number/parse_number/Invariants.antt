use Rattle.std.proofs.Common.{◌≡◌, ◌≤◌, take, true}
use Rattle.std.specs.List.{list_all}
use Rattle.basket_sets.specs.Number.{is_digit, value_of}
use Rattle.basket_sets.proofs.number.parse_number.Given as goal

abbrev pub invariant-loop-byte : goal.invariant-loop-byte
invariant-loop-byte l = record {
  value : l.value ≡ value_of (take l.byte-index l.text);
  bound : l.value ≤ l.bound;
  digits : list_all is_digit (take l.byte-index l.text) ≡ true;
}
