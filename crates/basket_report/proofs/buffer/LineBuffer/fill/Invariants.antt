use Rattle.std.proofs.Common.{◌≡◌}
use Rattle.basket_report.specs.LineBuffer.{HasLines}
use Rattle.basket_report.proofs.buffer.LineBuffer.fill.Given as goal

abbrev pub invariant-loop-index : goal.invariant-loop-index
invariant-loop-index l = record {
  from : l.self.from ≡ l.from;
  to : l.self.to ≡ l.index;
  lines : HasLines l.sets l.self;
}
