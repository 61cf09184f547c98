use Rattle.std.proofs.Common.{arith}
use Rattle.std.proofs.lemmas.Grind.{common_steps}
use Rattle.std.proofs.lemmas.List.{append_assoc}
use Rattle.basket_report.proofs.TableLemmas.{later_shows, name_is, names_more, still_some}
use Rattle.basket_report.proofs.table.put_names.Goals as goal

pub loop-item-preserved : goal.loop-item-preserved
loop-item-preserved c separator text fields has some = grind (arith, common_steps, still_some, name_is, later_shows, append_assoc, names_more)
