use Rattle.std.specs.Prelude.{◌≡◌, ◌≤◌, ℕ, List, length, All}
use Rattle.basket_sets.specs.Order.{IsInReportOrder}

-- each of the sets has so many items
abbrev pub AreOfSize : ℕ → List (List ℕ) → Type 0
AreOfSize size sets = All (λ set. length set ≡ size) sets

-- all sets have one size, which is at least 1
abbrev pub AreOfOneSize : List (List ℕ) → Type 0
AreOfOneSize sets = (size : ℕ) × (1 ≤ size) × AreOfSize size sets

-- sets of one size, which is at least 1, in report order
abbrev pub IsRegular : List (List ℕ) → Type 0
IsRegular sets = AreOfOneSize sets × IsInReportOrder sets
