-- The exit status after words that make no plan.
use Rattle.std.specs.Prelude.{ℕ}
use Rattle.basket_plan.specs.declared.command.PlanFault.{PlanFault}
use Rattle.basket_plan.specs.declared.command.PlanFault.TheVariants.{Memory, Usage, Help}

-- the status after words that make no plan: 6 if memory is out, 2 for a mistake, 0 for help
abbrev pub plan_status_of : PlanFault → ℕ
plan_status_of Memory = 6
plan_status_of (Usage text) = 2
plan_status_of (Help text) = 0
