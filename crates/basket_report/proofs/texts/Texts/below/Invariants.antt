use Rattle.std.proofs.Common.{◌≡◌, length}
use Rattle.basket_report.specs.Texts.{AreTexts}
use Rattle.basket_report.proofs.texts.Texts.below.Given as goal

abbrev pub invariant-loop-item : goal.invariant-loop-item
invariant-loop-item l = record { long : length l.texts.items ≡ l.item; made : AreTexts l.texts.items }
