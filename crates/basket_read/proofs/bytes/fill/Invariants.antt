use Rattle.std.proofs.Common.{◌≡◌, ◌≤◌, ◌-◌, length, take, false}
use Rattle.std.specs.Io.KnownBytes.{Consumes}
use Rattle.basket_read.proofs.bytes.fill.Given as goal

abbrev pub invariant-loop-filled : goal.invariant-loop-filled
invariant-loop-filled g l = record {
  unfailed : g.S.Source.has_failed l.reader ≡ false;
  «open» : g.S.Source.at_end l.reader ≡ false;
  within : l.filled ≤ length l.buffer.items;
  given : Consumes (g.S.Source.left l.initial.reader) (g.S.Source.left l.reader) (take l.filled l.buffer.items);
}

abbrev pub decreases-loop-filled : goal.decreases-loop-filled
decreases-loop-filled g l = l.most - l.filled
