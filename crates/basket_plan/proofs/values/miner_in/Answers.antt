use Rattle.std.specs.Prelude.{codes}
use Rattle.std.proofs.Common.{◌∙◌, ap, sym}
use Rattle.clap.specs.Words.{found_of}
use Rattle.basket_plan.specs.Values.{miner_of}
use Rattle.basket_plan.proofs.CommandLemmas.{read_none, read_some, skips}
use Rattle.basket_plan.proofs.values.miner_in.Goals as goal

pub returns-in_err-get_str : goal.returns-in_err-get_str
returns-in_err-get_str c = c.from_residual.ensures ∙ read_none miner_of (found_of c.args.options.now) (codes "miner") c.get_str.result c.get_str.ensures c.in_err-get_str.was

pub returns-in-apriori : goal.returns-in-apriori
returns-in-apriori c = sym (ap miner_of c.in-apriori.is) ∙ read_some miner_of (found_of c.args.options.now) (codes "miner") c.get_str.result c.get_str.ensures _ c.in_ok-get_str.was

pub returns-in-eclat : goal.returns-in-eclat
returns-in-eclat c = sym (ap miner_of c.in-eclat.is) ∙ read_some miner_of (found_of c.args.options.now) (codes "miner") c.get_str.result c.get_str.ensures _ c.in_ok-get_str.was

pub returns-in-text : goal.returns-in-text
returns-in-text c = sym (ap miner_of c.in-text.is) ∙ read_some miner_of (found_of c.args.options.now) (codes "miner") c.get_str.result c.get_str.ensures _ c.in_ok-get_str.was

pub returns-in-text-2 : goal.returns-in-text-2
returns-in-text-2 c = sym (ap miner_of c.in-text-2.is) ∙ read_some miner_of (found_of c.args.options.now) (codes "miner") c.get_str.result c.get_str.ensures _ c.in_ok-get_str.was

pub returns-in-fpgrowth : goal.returns-in-fpgrowth
returns-in-fpgrowth c = sym (ap miner_of c.in-fpgrowth.is) ∙ read_some miner_of (found_of c.args.options.now) (codes "miner") c.get_str.result c.get_str.ensures _ c.in_ok-get_str.was

pub returns-in_default : goal.returns-in_default
returns-in_default c = sym (skips _ (codes "apriori") _ _ c.in_default.not-apriori ∙ skips _ (codes "eclat") _ _ c.in_default.not-eclat ∙ skips _ (codes "eclat-diff") _ _ c.in_default.not-text ∙ skips _ (codes "eclat-bits") _ _ c.in_default.not-text-2 ∙ skips _ (codes "fpgrowth") _ _ c.in_default.not-fpgrowth) ∙ read_some miner_of (found_of c.args.options.now) (codes "miner") c.get_str.result c.get_str.ensures _ c.in_ok-get_str.was
