use Rattle.std.proofs.Common.{arith}
use Rattle.std.proofs.lemmas.Grind.{common_steps}
use Rattle.std.proofs.lemmas.Result.{IfOk-weaker}
use Rattle.basket_sets.proofs.CountLemmas.{numbers_rise, table_entries}
use Rattle.basket_sets.proofs.item_table.ItemTable.counts.Goals as goal

pub returns-clause-counts : goal.returns-clause-counts
returns-clause-counts c = grind (arith, common_steps, IfOk-weaker, table_entries)

pub returns-clause-rising : goal.returns-clause-rising
returns-clause-rising c = grind (arith, common_steps, numbers_rise 0 c.deref.result.now)
