use Rattle.std.proofs.Common.{◌≡◌, ◌<◌, ◌^◌, take, true}
use Rattle.std.specs.List.{list_all}
use Rattle.basket_sets.specs.Number.{is_digit, value_of}
use Rattle.basket_read.proofs.number.short_number.Given as goal

abbrev pub invariant-loop-index : goal.invariant-loop-index
invariant-loop-index l = record {
  small : l.value < 10 ^ l.index;
  digits : list_all is_digit (take l.index l.bytes) ≡ true;
  value : value_of (take l.index l.bytes) ≡ l.value;
}
