use Rattle.std.specs.Prelude.{codes}
use Rattle.std.proofs.Common.{◌∙◌, ap, sym, Some}
use Rattle.clap.specs.Words.{found_of}
use Rattle.basket_plan.specs.Values.{origin_of}
use Rattle.basket_plan.proofs.CommandLemmas.{read_some, skips}
use Rattle.basket_plan.proofs.values.origin_in.Goals as goal

pub returns-in-Some-text : goal.returns-in-Some-text
returns-in-Some-text c =
    c.standard-in-Some-text.ensures ∙ sym (ap origin_of c.in-Some-text.is-text)
    ∙ read_some origin_of (found_of c.args.options.now) c.args.name.now c.get_str.result c.get_str.ensures _ c.in-Some-text.is

pub returns-in_ok-from_str-in-Some : goal.returns-in_ok-from_str-in-Some
returns-in_ok-from_str-in-Some c =
    c.file.ensures ∙ ap Some c.in_ok-from_str-in-Some.ensures.ok ∙ sym (skips _ (codes "-") _ _ c.in-Some.not-text)
    ∙ read_some origin_of (found_of c.args.options.now) c.args.name.now c.get_str.result c.get_str.ensures _ c.in-Some.is
