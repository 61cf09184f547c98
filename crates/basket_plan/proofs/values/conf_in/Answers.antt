use Rattle.std.specs.Prelude.{codes}
use Rattle.std.proofs.Common.{◌∙◌}
use Rattle.clap.specs.Words.{found_of}
use Rattle.basket_sets.specs.Share.{share_of}
use Rattle.basket_plan.proofs.CommandLemmas.{read_none, read_some}
use Rattle.basket_plan.proofs.values.conf_in.Goals as goal

pub returns-in_err-get_str : goal.returns-in_err-get_str
returns-in_err-get_str c = c.from_residual.ensures ∙ read_none share_of (found_of c.args.options.now) (codes "conf") c.get_str.result c.get_str.ensures c.in_err-get_str.was

pub returns : goal.returns
returns c = c.parse_share.ensures ∙ read_some share_of (found_of c.args.options.now) (codes "conf") c.get_str.result c.get_str.ensures _ c.in_ok-get_str.was
