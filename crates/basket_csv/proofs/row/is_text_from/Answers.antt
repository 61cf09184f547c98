use Rattle.std.proofs.Common.{sym, ◌∙◌, arith}
use Rattle.std.proofs.lemmas.Grind.{common_steps}
use Rattle.basket_csv.specs.Record.{fields_of}
use Rattle.basket_csv.proofs.RowLemmas.{text_ends}
use Rattle.basket_csv.proofs.row.is_text_from.Goals as goal

pub returns-then-is_none : goal.returns-then-is_none
returns-then-is_none c = grind (arith, common_steps)

pub loop-index-preserved : goal.loop-index-preserved
loop-index-preserved c = grind (arith, common_steps)

pub returns : goal.returns
returns c = sym (c.loop-index.invariant ∙ text_ends (fields_of c.args.row.now) c.loop-index.index (rw c.len-index-end.ensures at c.loop-index-test.false))
