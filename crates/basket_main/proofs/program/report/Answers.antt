use Rattle.std.proofs.Common.{ℕ, List, [], Option, refl, subst}
use Rattle.basket.specs.Engine.{IsReportFault}
use Rattle.basket_plan.specs.declared.invocation.Task.TheVariants.{Report}
use Rattle.basket_main.proofs.program.report.Goals as goal

pub returns-in-Err-clause-asked : goal.returns-in-Err-clause-asked
returns-in-Err-clause-asked g c = λ words is. (
  record { task = Report c.args.plan; input = c.args.input },
  [],
  [],
  is,
  refl,
  c.in-Err.ensures.opened,
)

pub returns-clause-fault : goal.returns-clause-fault
returns-clause-fault g c =
    let reader = c.run-ran.new.reader in
    let fault = λ (bytes : Option (List ℕ)). IsReportFault c.args.plan.question bytes (g.I.Input.Source.left reader) (g.I.Input.Source.has_failed reader) c.in-Err-ran.fault in
    (reader, subst fault c.in-Ok.ensures.left c.in-Err-ran.ensures.fault)
