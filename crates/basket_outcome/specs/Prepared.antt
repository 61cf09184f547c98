-- A report that is made and not written yet.
use Rattle.std.specs.Prelude.{ℕ, List}
use Rattle.basket_report.specs.Bytes.{joined}
use Rattle.basket_report.specs.Report.{report_of}
use Rattle.basket_report.specs.Style.{Numbered}
use Rattle.basket_outcome.specs.declared.prepared.PreparedReport.{PreparedReport}
use Rattle.basket_outcome.specs.declared.prepared.PreparedReport.TheVariants.{Text, Texts, Sets}

-- what is written of it
abbrev pub prepared_text : PreparedReport → List ℕ
prepared_text (Text text) = text.items
prepared_text (Texts texts) = joined texts.items
prepared_text (Sets sets lines) = report_of Numbered sets
