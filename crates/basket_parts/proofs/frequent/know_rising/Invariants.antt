use Rattle.std.proofs.Common.{take}
use Rattle.std.specs.List.{All}
use Rattle.basket_parts.specs.Frequent.{HasRisingSet}
use Rattle.basket_parts.proofs.frequent.know_rising.Given as goal

abbrev pub invariant-loop-line : goal.invariant-loop-line
invariant-loop-line l = All HasRisingSet (take l.line-index l.lines)
