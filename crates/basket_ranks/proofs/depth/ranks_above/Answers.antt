use Rattle.std.proofs.Common.{refl, arith}
use Rattle.basket_ranks.proofs.DepthLemmas.{kept_rises, long_basket, missed_basket, short_basket, too_short}
use Rattle.basket_ranks.proofs.depth.ranks_above.Goals as goal

pub returns-then-ranks-least-clause-none : goal.returns-then-ranks-least-clause-none
returns-then-ranks-least-clause-none c = λ none weight. too_short c.args.least c.args.rank c.args.ranks.now weight c.if-ranks-least.true

pub returns-in_default-clause-none : goal.returns-in_default-clause-none
returns-in_default-clause-none c = λ none weight. missed_basket c.args.least c.args.rank c.in_default.field-0 c.args.ranks.now weight c.requires c.in_default.ensures.position

pub returns-then-above-least-clause-none : goal.returns-then-above-least-clause-none
returns-then-above-least-clause-none c = λ none weight. short_basket c.args.rank c.in-Ok.at c.args.ranks.now _ c.requires c.in-Ok.ensures.position refl c.args.least weight c.if-above-least.true

pub returns-clause-some : goal.returns-clause-some
returns-clause-some c = (
  kept_rises c.args.rank c.in-Ok.at c.args.ranks.now _ c.requires c.in-Ok.ensures.position refl,
  λ weight. long_basket c.args.rank c.in-Ok.at c.args.ranks.now _ c.requires c.in-Ok.ensures.position refl c.args.least weight (omega (arith, c.if-above-least.false)),
)
