use Rattle.std.proofs.Common.{arith}
use Rattle.std.proofs.lemmas.Grind.{common_steps}
use Rattle.basket_sets.proofs.theory.Rising.{rising-rising}
use Rattle.basket_ranks.proofs.DepthLemmas.{left_more}
use Rattle.basket_ranks.proofs.depth.narrowed_to.Goals as goal
use Rattle.basket_ranks.proofs.depth.narrowed_to.Goals.{in-Some+in_ok-from_items+in_ok-push}

pub loop-weighted-preserved : goal.loop-weighted-preserved
loop-weighted-preserved c = grind (arith, common_steps, left_more, rising-rising)
