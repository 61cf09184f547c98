use Rattle.std.proofs.Common.{◌≡◌, ◌≤◌, ◌-◌, false, length, take}
use Rattle.std.specs.Io.KnownBytes.{Appends}
use Rattle.basket_report.proofs.bytes.write_bytes.Given as goal

abbrev pub invariant-loop-written : goal.invariant-loop-written
invariant-loop-written g l = record {
  working : g.W.Sink.has_failed l.writer ≡ false;
  within : l.written ≤ length l.bytes;
  taken : Appends (g.W.Sink.taken l.initial.writer) (g.W.Sink.taken l.writer) (take l.written l.bytes);
}

abbrev pub decreases-loop-written : goal.decreases-loop-written
decreases-loop-written g l = length l.bytes - l.written
