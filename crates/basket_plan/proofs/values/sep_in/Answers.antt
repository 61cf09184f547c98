use Rattle.std.specs.Prelude.{codes}
use Rattle.std.proofs.Common.{◌∙◌}
use Rattle.clap.specs.Words.{found_of}
use Rattle.basket_plan.specs.Values.{separator_of}
use Rattle.basket_plan.proofs.CommandLemmas.{read_none, read_some}
use Rattle.basket_plan.proofs.values.sep_in.Goals as goal

pub returns-in_err-text-clause-found : goal.returns-in_err-text-clause-found
returns-in_err-text-clause-found c = c.from_residual.ensures ∙ read_none separator_of (found_of c.args.options.now) (codes "sep") c.get_str.result c.get_str.ensures c.in_err-text.was

pub returns-clause-found : goal.returns-clause-found
returns-clause-found c = c.separator_of.ensures.found ∙ read_some separator_of (found_of c.args.options.now) (codes "sep") c.get_str.result c.get_str.ensures _ c.in_ok-text.was
