use Rattle.std.proofs.Common.{subst, arith}
use Rattle.std.proofs.lemmas.Grind.{common_steps}
use Rattle.std.proofs.lemmas.List.{length-map, length-take, take_all}
use Rattle.basket_sets.proofs.theory.Support.{support_falls}
use Rattle.mine_supports.specs.BlockCounts.{numbered}
use Rattle.mine_supports.specs.Counter.{AreAdded}
use Rattle.mine_supports.specs.Extensions.{extend}
use Rattle.mine_supports.proofs.CounterLemmas.{next_added, none_yet}
use Rattle.mine_supports.proofs.block.Block.add_weights.Goals as goal

pub loop-number-init : goal.loop-number-init
loop-number-init c set are = none_yet (numbered c.args.self.now) c.args.start c.args.counts.now

pub overflow_add-counts-in-loop-number : goal.overflow_add-counts-in-loop-number
overflow_add-counts-in-loop-number c = grind (arith, common_steps, support_falls, length-map, length-take)

pub loop-number-preserved : goal.loop-number-preserved
loop-number-preserved c set are =
    next_added set c.args.items.now (numbered c.args.self.now) c.args.start c.loop-number.number c.weight.result c.args.counts.now c.loop-number.counts c.loop-number-test.true
    (omega (arith, c.requires.within, c.loop-number.auto.counts)) (c.weight.ensures set are) (c.loop-number.invariant set are)

pub returns : goal.returns
returns c set are =
    subst (λ l. AreAdded (extend set l) (numbered c.args.self.now) c.args.start c.args.counts.now c.loop-number.counts) (take_all c.loop-number.number c.args.items.now (omega (arith, c.loop-number-test.false)))
    (c.loop-number.invariant set are)
