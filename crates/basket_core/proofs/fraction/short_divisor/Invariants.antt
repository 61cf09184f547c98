use Rattle.std.proofs.Common.{ℕ}
use Rattle.std.specs.Int.{IsGcd}
use Rattle.basket_core.proofs.fraction.short_divisor.Given as goal

abbrev pub invariant-loop-less : goal.invariant-loop-less
invariant-loop-less l = (g : ℕ) → IsGcd l.greater l.less g → IsGcd l.fn.a l.fn.b g

abbrev pub decreases-loop-less : goal.decreases-loop-less
decreases-loop-less l = l.less
