use Rattle.std.proofs.Common.{◌∙◌, ap, ap₂, sym}
use Rattle.std.specs.Prelude.{fold}
use Rattle.std.proofs.lemmas.List.{take_all}
use Rattle.std.proofs.lemmas.List.Sums.{fold_more}
use Rattle.clap.specs.Simple.{App}
use Rattle.clap.specs.Words.{with_subcommand}
use Rattle.basket_plan.specs.Options.{with_listed}
use Rattle.basket_plan.proofs.command.line_with.Goals as goal

pub loop-listed-preserved : goal.loop-listed-preserved
loop-listed-preserved c =
    c.in_ok-line-2.ensures.shape c.in_ok-command.ensures.local ∙ ap₂ with_subcommand c.loop-listed.invariant (ap (λ (a : App). a.top) c.in_ok-command.ensures.options)
    ∙ sym (fold_more with_listed _ c.args.commands.now c.loop-listed.listed-index _ c.loop-listed-test.true)

pub returns : goal.returns
returns c = c.loop-listed.invariant ∙ ap (fold with_listed _) (take_all c.loop-listed.listed-index c.args.commands.now c.loop-listed-test.false)
