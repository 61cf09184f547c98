-- The texts of numbers, and those made once for many lines.
use Rattle.std.specs.Prelude.{ℕ, List, ◌∷◌, ◌++◌, ◌≡◌, ◌<◌, decimal, length, slice_index_or}
use Rattle.basket_core.specs.Fraction.{Ratio}
use Rattle.basket_report.specs.declared.item_text.ItemText.{ItemText}

-- each text is that of the item of its index
abbrev pub AreTexts : List ItemText → Type 0
AreTexts texts = (index : ℕ) (none : ItemText) → index < length texts → (slice_index_or texts index none).item ≡ index

-- a numerator, a slash and a denominator
abbrev pub ratio_text : Ratio → List ℕ
ratio_text ratio = decimal ratio.numerator ++ 47 ∷ decimal ratio.denominator
