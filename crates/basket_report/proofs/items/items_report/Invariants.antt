use Rattle.std.proofs.Common.{take}
use Rattle.basket_report.specs.Items.{items_met}
use Rattle.basket_report.specs.Report.{HasSoFar, report_of}
use Rattle.basket_report.specs.Style.{wording_of}
use Rattle.basket_report.proofs.items.items_report.Given as goal

abbrev pub invariant-loop-item : goal.invariant-loop-item
invariant-loop-item l = HasSoFar l.report (wording_of l.style) (report_of (wording_of l.style) (items_met (take l.item-index l.counts) l.minimum l.total))
