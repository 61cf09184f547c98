use Rattle.std.specs.Prelude.{codes}
use Rattle.std.proofs.Common.{◌∙◌, ap, sym}
use Rattle.clap.specs.Words.{found_of}
use Rattle.basket_plan.specs.Values.{form_of}
use Rattle.basket_plan.proofs.CommandLemmas.{read_none, read_some, skips}
use Rattle.basket_plan.proofs.values.form_in.Goals as goal

pub returns-in_err-get_str : goal.returns-in_err-get_str
returns-in_err-get_str c = c.from_residual.ensures ∙ read_none form_of (found_of c.args.options.now) (codes "form") c.get_str.result c.get_str.ensures c.in_err-get_str.was

pub returns-in-fimi : goal.returns-in-fimi
returns-in-fimi c = sym (ap form_of c.in-fimi.is) ∙ read_some form_of (found_of c.args.options.now) (codes "form") c.get_str.result c.get_str.ensures _ c.in_ok-get_str.was

pub returns-in-baskets : goal.returns-in-baskets
returns-in-baskets c = sym (ap form_of c.in-baskets.is) ∙ read_some form_of (found_of c.args.options.now) (codes "form") c.get_str.result c.get_str.ensures _ c.in_ok-get_str.was

pub returns-in-single : goal.returns-in-single
returns-in-single c = sym (ap form_of c.in-single.is) ∙ read_some form_of (found_of c.args.options.now) (codes "form") c.get_str.result c.get_str.ensures _ c.in_ok-get_str.was

pub returns-in-counts : goal.returns-in-counts
returns-in-counts c = sym (ap form_of c.in-counts.is) ∙ read_some form_of (found_of c.args.options.now) (codes "form") c.get_str.result c.get_str.ensures _ c.in_ok-get_str.was

pub returns-in-text : goal.returns-in-text
returns-in-text c = sym (ap form_of c.in-text.is) ∙ read_some form_of (found_of c.args.options.now) (codes "form") c.get_str.result c.get_str.ensures _ c.in_ok-get_str.was

pub returns-in_default : goal.returns-in_default
returns-in_default c = sym (skips _ (codes "fimi") _ _ c.in_default.not-fimi ∙ skips _ (codes "baskets") _ _ c.in_default.not-baskets ∙ skips _ (codes "single") _ _ c.in_default.not-single ∙ skips _ (codes "counts") _ _ c.in_default.not-counts ∙ skips _ (codes "csv-counts") _ _ c.in_default.not-text) ∙ read_some form_of (found_of c.args.options.now) (codes "form") c.get_str.result c.get_str.ensures _ c.in_ok-get_str.was
