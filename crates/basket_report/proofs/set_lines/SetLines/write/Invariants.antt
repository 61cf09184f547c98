use Rattle.std.proofs.Common.{◌-◌, ◌≤◌, length, take}
use Rattle.basket_report.specs.Bytes.{IsWritten}
use Rattle.basket_report.specs.Report.{report_of}
use Rattle.basket_report.specs.Style.{Numbered}
use Rattle.basket_report.proofs.set_lines.SetLines.write.Given as goal

abbrev pub invariant-loop-index : goal.invariant-loop-index
invariant-loop-index g l = record {
  within : l.index ≤ length l.sets;
  way : IsWritten (g.W.Sink.taken l.fn.writer) (g.W.Sink.taken l.writer) (g.W.Sink.has_failed l.writer) (g.W.Sink.ends_in_flush l.writer) (report_of Numbered (take l.index l.sets));
}

abbrev pub decreases-loop-index : goal.decreases-loop-index
decreases-loop-index g l = length l.sets - l.index
