use Rattle.std.proofs.Common.{◌≤◌, List, Option, ℕ, length, take}
use Rattle.basket_report.specs.Bytes.{IsWritten}
use Rattle.basket_report.specs.Report.{report_of}
use Rattle.basket_report.specs.Style.{Numbered}
use Rattle.basket_report.proofs.set_lines.send_buffers.Given as goal

abbrev pub invariant-loop-buffer : goal.invariant-loop-buffer
invariant-loop-buffer g l = record {
  after : l.index ≤ l.next;
  within : l.next ≤ length l.sets;
  way : (start : Option (List ℕ))
      → IsWritten start (g.W.Sink.taken l.fn.writer) (g.W.Sink.has_failed l.fn.writer) (g.W.Sink.ends_in_flush l.fn.writer) (report_of Numbered (take l.index l.sets))
      → IsWritten start (g.W.Sink.taken l.writer) (g.W.Sink.has_failed l.writer) (g.W.Sink.ends_in_flush l.writer) (report_of Numbered (take l.next l.sets));
}
