use Rattle.std.proofs.Common.{subst}
use Rattle.basket_report.specs.Report.{HasSoFar}
use Rattle.basket_report.proofs.report.Report.into_text.Goals as goal

pub returns-in-Table : goal.returns-in-Table
returns-in-Table c wording text has =
    let (separator, names, is, so) = subst (λ report. HasSoFar report wording text) c.in-Table.is has in
    c.into_text-in-Table.ensures separator names text so
