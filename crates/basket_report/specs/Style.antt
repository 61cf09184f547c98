-- How a report writes items.
use Rattle.std.specs.Prelude.{ℕ, List}
use Rattle.basket_report.specs.declared.style.Style.{Style}
use Rattle.basket_report.specs.declared.style.Style.TheVariants as style

-- by their numbers, or as CSV by their names, with a byte between fields
pub data Wording : Type 0 where
  Numbered : Wording
  Named : ℕ → List (List ℕ) → Wording

abbrev pub wording_of : Style → Wording
wording_of style.Numbers = Numbered
wording_of (style.Names names separator) = Named separator names.now
