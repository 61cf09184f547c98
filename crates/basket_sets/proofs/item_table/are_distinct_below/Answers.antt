use Rattle.std.proofs.Common.{◌∙◌, arith, sym}
use Rattle.std.proofs.lemmas.Bool.{ltb-true}
use Rattle.basket_sets.proofs.CountLemmas.{last_is_greatest}
use Rattle.basket_sets.proofs.theory.Rising.{rising_distinct}
use Rattle.basket_sets.proofs.theory.Tests.{below_from_all}
use Rattle.basket_sets.proofs.item_table.are_distinct_below.Goals as goal

pub returns-then-is_rising-clause-distinct : goal.returns-then-is_rising-clause-distinct
returns-then-is_rising-clause-distinct c = λ _. rising_distinct c.args.numbers.now (c.is_rising.ensures.0 c.if-is_rising.true)

pub returns-then-is_rising-clause-below : goal.returns-then-is_rising-clause-below
returns-then-is_rising-clause-below c = λ within item h. let k = last_is_greatest c.args.numbers.now (c.is_rising.ensures.0 c.if-is_rising.true) item h in let less = ltb-true _ _ within in omega (arith, c.in-Some.ensures.item.3.1 0)

pub returns-clause-below : goal.returns-clause-below
returns-clause-below c = λ _. below_from_all c.args.bound c.args.numbers.now (sym c.are_below.ensures ∙ c.if-not-are_below.false)
