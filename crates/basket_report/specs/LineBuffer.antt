-- The lines of neighbouring sets.
use Rattle.std.specs.Prelude.{◌≡◌, ◌≤◌, ℕ, List, ◌++◌, length, take}
use Rattle.basket_sets.specs.declared.counted.Counted.{Counted}
use Rattle.basket_report.specs.Report.{report_of}
use Rattle.basket_report.specs.Style.{Numbered}

-- a text, the places of the sets whose lines it has, and how many bytes there is room for
pub record Stretch : Type 0 where
  pub from : ℕ
  pub to : ℕ
  pub text : List ℕ
  pub room : ℕ

-- the text has the lines of these of the sets
pub record HasLines (sets : List Counted) (buffer : Stretch) : Type 0 where
  pub ordered : buffer.from ≤ buffer.to
  pub within : buffer.to ≤ length sets
  pub lines : report_of Numbered (take buffer.from sets) ++ buffer.text ≡ report_of Numbered (take buffer.to sets)
