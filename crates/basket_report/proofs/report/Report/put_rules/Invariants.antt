use Rattle.std.proofs.Common.{◌++◌, ℕ, List, take}
use Rattle.basket_rules.specs.Confident.{rules_in}
use Rattle.basket_report.specs.Report.{HasSoFar, rules_report_of}
use Rattle.basket_report.specs.Style.{Wording}
use Rattle.basket_report.proofs.report.Report.put_rules.Given as goal

abbrev pub invariant-loop-rule : goal.invariant-loop-rule
invariant-loop-rule l = (wording : Wording) (text : List ℕ) → HasSoFar l.initial.self wording text → HasSoFar l.self wording (text ++ rules_report_of wording (rules_in l.frequent l.number (take l.rule-index l.met)))
