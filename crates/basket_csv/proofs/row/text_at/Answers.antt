use Rattle.std.proofs.Common.{arith}
use Rattle.std.proofs.lemmas.Grind.{common_steps}
use Rattle.basket_csv.proofs.RowLemmas.{field_found, field_missing, nothing_is_text}
use Rattle.basket_csv.proofs.row.text_at.Goals as goal

pub returns-in-Some : goal.returns-in-Some
returns-in-Some c = grind (arith, common_steps, field_found)

pub returns-in-None : goal.returns-in-None
returns-in-None c = grind (arith, common_steps, field_missing, nothing_is_text)
