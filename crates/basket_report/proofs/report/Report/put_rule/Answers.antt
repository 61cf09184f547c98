use Rattle.std.proofs.Common.{◌++◌, ap, subst, sym}
use Rattle.std.proofs.lemmas.Result.{on_ok_weaker}
use Rattle.basket_rules.specs.Confident.{rule_from}
use Rattle.basket_report.specs.Report.{HasSoFar, rule_text}
use Rattle.basket_report.specs.Table.{HasText}
use Rattle.basket_report.proofs.report.Report.put_rule.Goals as goal

pub returns-in-Table : goal.returns-in-Table
returns-in-Table c wording text has =
    let (separator, names, is, so) = subst (λ report. HasSoFar report wording text) c.in-Table.is has in
    let same = ap (λ w. text ++ rule_text w (rule_from c.args.sides.now c.args.counts.now)) (sym is) in
    on_ok_weaker c.put_rule-in-Table.result (λ h. (separator, names, is, subst (HasText c.put_rule-in-Table.new.self separator names) same h))
    (c.put_rule-in-Table.ensures separator names text so)
