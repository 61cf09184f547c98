use Rattle.std.proofs.Common.{◌≡◌, take}
use Rattle.std.specs.Prelude.{fold}
use Rattle.clap.specs.Words.{app_of}
use Rattle.basket_plan.specs.Options.{bare_line, with_listed}
use Rattle.basket_plan.proofs.command.line_with.Given as goal

abbrev pub invariant-loop-listed : goal.invariant-loop-listed
invariant-loop-listed l = app_of l.line ≡ fold with_listed bare_line (take l.listed-index l.commands)
