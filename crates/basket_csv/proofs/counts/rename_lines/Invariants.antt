use Rattle.std.proofs.Common.{◌≡◌, ◌++◌, drop, length, map, take}
use Rattle.basket_csv.specs.Counts.{renamed_line}
use Rattle.basket_csv.proofs.counts.rename_lines.Given as goal

-- the lines before the index are renamed, the others are as they were
abbrev pub invariant-loop-index : goal.invariant-loop-index
invariant-loop-index l = record {
  long : length l.lines ≡ length l.initial.lines;
  renamed : l.lines ≡ map (renamed_line l.names) (take l.index l.initial.lines) ++ drop l.index l.initial.lines;
}
