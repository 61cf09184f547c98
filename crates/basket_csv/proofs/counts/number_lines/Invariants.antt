use Rattle.std.proofs.Common.{◌≡◌, ◌+◌, ◌++◌, drop, length, take}
use Rattle.basket_csv.specs.Counts.{numbered_from}
use Rattle.basket_csv.proofs.counts.number_lines.Given as goal

-- the lines before the index have their numbers, the others are as they were
abbrev pub invariant-loop-index : goal.invariant-loop-index
invariant-loop-index l = record {
  long : length l.lines ≡ length l.initial.lines;
  nth : l.nth ≡ l.first + l.index;
  numbered : l.lines ≡ numbered_from l.first (take l.index l.initial.lines) ++ drop l.index l.initial.lines;
}
