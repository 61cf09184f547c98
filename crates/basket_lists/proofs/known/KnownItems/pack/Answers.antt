use Rattle.std.proofs.Common.{arith}
use Rattle.std.proofs.lemmas.Grind.{common_steps}
use Rattle.basket_lists.proofs.BetweenLemmas.{with_next}
use Rattle.basket_lists.proofs.known.KnownItems.pack.Goals as goal

pub loop-item-preserved : goal.loop-item-preserved
loop-item-preserved c = grind (arith, common_steps, with_next)
