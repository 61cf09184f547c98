use Rattle.std.proofs.Common.{arith}
use Rattle.std.proofs.lemmas.Nat.Gcd.{IsGcd-from_zero, IsGcd-from_mod}
use Rattle.basket_core.proofs.fraction.short_divisor.Goals as goal

pub loop-less-preserved : goal.loop-less-preserved
loop-less-preserved c g h = c.loop-less.invariant g (IsGcd-from_mod _ _ g h)

pub returns : goal.returns
returns c = c.loop-less.invariant _ (IsGcd-from_zero _ _ (omega arith))
