use Rattle.std.proofs.Common.{take, ap, ◌∙◌, arith}
use Rattle.std.proofs.lemmas.List.{take_all}
use Rattle.std.proofs.lemmas.Result.{IfOk-weaker}
use Rattle.basket_report.specs.Report.{report_of}
use Rattle.basket_report.specs.Style.{wording_of}
use Rattle.basket_report.proofs.sets.sets_report.Goals as goal

pub returns : goal.returns
returns c =
    let wording = wording_of c.args.style in
    let whole = take_all c.loop-index.index c.args.sets.now (omega (arith, c.loop-index-test.false, c.len-index-end.ensures)) in
    IfOk-weaker c.into_text.result _ _ (λ written same. same ∙ ap (report_of wording) whole) (c.into_text.ensures wording (report_of wording (take c.loop-index.index c.args.sets.now)) c.loop-index.invariant)
