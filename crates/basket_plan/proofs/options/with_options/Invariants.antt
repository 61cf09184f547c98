use Rattle.std.proofs.Common.{◌≡◌, false, take}
use Rattle.std.specs.Prelude.{fold}
use Rattle.clap.specs.Words.{app_of}
use Rattle.clap.specs.declared.builder.command.Command.TheViews.{out-Command as fields_of}
use Rattle.basket_plan.specs.Options.{with_taken}
use Rattle.basket_plan.proofs.options.with_options.Given as goal

abbrev pub invariant-loop-taken : goal.invariant-loop-taken
invariant-loop-taken l = record {
  options : app_of l.command ≡ fold with_taken (app_of l.initial.command) (take l.taken-index l.options);
  local : (fields_of l.initial.command).has_globals ≡ false → (fields_of l.command).has_globals ≡ false;
}
