use Rattle.std.proofs.Common.{◌++◌, ap, subst, sym}
use Rattle.std.proofs.lemmas.Result.{on_ok_weaker}
use Rattle.basket_report.specs.Report.{HasSoFar, set_of, set_text}
use Rattle.basket_report.specs.Table.{HasText}
use Rattle.basket_report.proofs.report.Report.put_set.Goals as goal

pub returns-in-Table : goal.returns-in-Table
returns-in-Table c wording text has =
    let (separator, names, is, so) = subst (λ report. HasSoFar report wording text) c.in-Table.is has in
    let same = ap (λ w. text ++ set_text w (set_of c.args.items.now c.args.count)) (sym is) in
    on_ok_weaker c.put_set-in-Table.result (λ h. (separator, names, is, subst (HasText c.put_set-in-Table.new.self separator names) same h))
    (c.put_set-in-Table.ensures separator names text so)
