use Rattle.std.proofs.Common.{◌≡◌, ◌++◌, take}
use Rattle.basket_report.specs.Lines.{items_text}
use Rattle.basket_report.proofs.lines.put_items.Given as goal

abbrev pub invariant-loop-item : goal.invariant-loop-item
invariant-loop-item l = l.report.items ≡ l.initial.report.items ++ items_text (take l.item-index l.items)
