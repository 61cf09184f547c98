use Rattle.std.proofs.Common.{take}
use Rattle.basket_report.specs.Report.{HasSoFar, report_of}
use Rattle.basket_report.specs.Style.{wording_of}
use Rattle.basket_report.proofs.sets.sets_report.Given as goal

abbrev pub invariant-loop-index : goal.invariant-loop-index
invariant-loop-index l = HasSoFar l.report (wording_of l.style) (report_of (wording_of l.style) (take l.index l.sets))
