use Rattle.std.specs.Prelude.{codes}
use Rattle.std.proofs.Common.{◌∙◌}
use Rattle.clap.specs.Words.{found_of}
use Rattle.basket_sets.specs.Minimum.{minimum_of}
use Rattle.basket_plan.proofs.CommandLemmas.{read_none, read_some}
use Rattle.basket_plan.proofs.values.min_in.Goals as goal

pub returns-in_err-get_str-clause-found : goal.returns-in_err-get_str-clause-found
returns-in_err-get_str-clause-found c = c.from_residual.ensures ∙ read_none minimum_of (found_of c.args.options.now) (codes "min") c.get_str.result c.get_str.ensures c.in_err-get_str.was

pub returns-clause-found : goal.returns-clause-found
returns-clause-found c = c.parse_minimum.ensures.read ∙ read_some minimum_of (found_of c.args.options.now) (codes "min") c.get_str.result c.get_str.ensures _ c.in_ok-get_str.was
