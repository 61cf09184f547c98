use Rattle.std.proofs.Common.{◌∙◌, map, arith}
use Rattle.std.proofs.lemmas.Grind.{common_steps}
use Rattle.std.proofs.lemmas.Result.{IfErr-weaker, IfOk-weaker}
use Rattle.clap.specs.Words.{subcommand_rows_of}
use Rattle.basket_plan.proofs.CommandLemmas.{help_refused, no_help, plan_taken, plan_refused}
use Rattle.basket_plan.proofs.command.invocation_of_plain.Goals as goal

pub returns-in-Ok-clause-made : goal.returns-in-Ok-clause-made
returns-in-Ok-clause-made c =
    let taken = plan_taken _ c.in_ok-command_line.ensures (map (λ word. word.now) c.args.words.now)
    (subcommand_rows_of c.in-Ok.matches) c.in-Ok.ensures.kinds (λ simple. (c.in-Ok.ensures.matches simple).1) in
    IfOk-weaker c.invocation_from.result _ _ (λ invocation made. taken ∙ made) c.invocation_from.ensures.made

pub returns-in-Ok-clause-refused : goal.returns-in-Ok-clause-refused
returns-in-Ok-clause-refused c =
    let taken = plan_taken _ c.in_ok-command_line.ensures (map (λ word. word.now) c.args.words.now)
    (subcommand_rows_of c.in-Ok.matches) c.in-Ok.ensures.kinds (λ simple. (c.in-Ok.ensures.matches simple).1) in
    IfErr-weaker c.invocation_from.result _ _ (λ fault refused has_memory. taken ∙ refused has_memory) c.invocation_from.ensures.refused

pub returns-in-Err-clause-refused : goal.returns-in-Err-clause-refused
returns-in-Err-clause-refused c other =
    plan_refused _ c.in_ok-command_line.ensures (map (λ word. word.now) c.args.words.now)
    c.in-Err.error c.in-Err.ensures.kinds (c.fault_of.ensures.memory other)

pub returns-in-Ok-clause-help : goal.returns-in-Ok-clause-help
returns-in-Ok-clause-help c = let none = no_help _ c.in_ok-command_line.ensures (map (λ word. word.now) c.args.words.now) c.in-Ok.ensures.kinds in grind (arith, common_steps, IfErr-weaker)

pub returns-in-Err-clause-help : goal.returns-in-Err-clause-help
returns-in-Err-clause-help c other =
    help_refused _ c.in_ok-command_line.ensures (map (λ word. word.now) c.args.words.now)
    c.in-Err.error c.in-Err.ensures.kinds (c.fault_of.ensures.memory other) ∙ c.fault_of.ensures.help other
