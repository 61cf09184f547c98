use Rattle.std.proofs.Common.{subst}
use Rattle.std.proofs.lemmas.List.Elements.{All-more}
use Rattle.basket_parts.specs.Frequent.{HasRisingSet}
use Rattle.basket_parts.proofs.frequent.know_rising.Goals as goal

pub loop-line-preserved : goal.loop-line-preserved
loop-line-preserved c =
    All-more HasRisingSet c.args.lines.now c.loop-line.line-index c.line-item.result c.loop-line-test.true c.loop-line.invariant (subst HasRisingSet c.line-item.is c.items-items.ensures.rising)
