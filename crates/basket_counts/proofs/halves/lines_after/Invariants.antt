use Rattle.std.proofs.Common.{◌≡◌, ◌≤◌, ◌+◌, take, length}
use Rattle.basket_read.specs.Cut.{cut_at}
use Rattle.basket_read.specs.Fimi.{is_line_feed}
use Rattle.basket_counts.proofs.halves.lines_after.Given as goal

abbrev pub invariant-loop-byte : goal.invariant-loop-byte
invariant-loop-byte l = record {
  count : l.count ≡ l.before + length (cut_at is_line_feed (take l.byte-index l.bytes)).ended;
  few : l.count ≤ l.before + l.byte-index;
}
