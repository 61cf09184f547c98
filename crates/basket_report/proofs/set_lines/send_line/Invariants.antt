use Rattle.std.proofs.Common.{◌≤◌, ◌-◌, ◌++◌, ℕ, List, Option, length, take}
use Rattle.basket_report.specs.Bytes.{IsWritten}
use Rattle.basket_report.specs.Lines.{items_text}
use Rattle.basket_report.proofs.set_lines.send_line.Given as goal

abbrev pub invariant-loop-start : goal.invariant-loop-start
invariant-loop-start g l = record {
  within : l.start ≤ length l.items;
  way : (start : Option (List ℕ)) (text : List ℕ) → IsWritten start (g.W.Sink.taken l.fn.writer) (g.W.Sink.has_failed l.fn.writer) (g.W.Sink.ends_in_flush l.fn.writer) text
      → IsWritten start (g.W.Sink.taken l.writer) (g.W.Sink.has_failed l.writer) (g.W.Sink.ends_in_flush l.writer) (text ++ items_text (take l.start l.items));
}

abbrev pub decreases-loop-start : goal.decreases-loop-start
decreases-loop-start g l = length l.items - l.start
