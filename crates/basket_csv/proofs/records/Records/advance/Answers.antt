use Rattle.std.proofs.Common.{arith}
use Rattle.std.proofs.lemmas.Grind.{common_steps}
use Rattle.std.proofs.lemmas.Bool.{eqb-true}
use Rattle.basket_csv.proofs.PlainLemmas.{no_record}
use Rattle.basket_csv.proofs.records.Records.advance.Goals as goal

pub returns-then-is_empty-clause-left : goal.returns-then-is_empty-clause-left
returns-then-is_empty-clause-left c = grind (arith, common_steps, no_record, eqb-true)
