-- Fractions in lowest terms.
use Rattle.std.specs.Prelude.{◌≡◌, ◌≤◌, ℕ, zero, suc, ◌*◌, ◌/◌, ◌%◌, ◌==◌, ◌&&◌, if◌then◌else◌}
use Rattle.std.specs.Int.{◌∣◌}

-- a numerator and a denominator
pub record Ratio : Type 0 where
  pub numerator : ℕ
  pub denominator : ℕ

-- the denominator is at least 1, and no number above 1 divides both
pub record IsLowest (ratio : Ratio) : Type 0 where
  pub some : 1 ≤ ratio.denominator
  pub lowest : (divisor : ℕ) → divisor ∣ ratio.numerator → divisor ∣ ratio.denominator → divisor ≤ 1

-- the ratio of a numerator and a denominator
abbrev pub IsRatioOf : ℕ → ℕ → Ratio → Type 0
IsRatioOf numerator denominator ratio = ratio.numerator * denominator ≡ ratio.denominator * numerator

-- the greatest number up to a bound that divides both numbers
abbrev pub common_divisor_up_to : ℕ → ℕ → ℕ → ℕ
common_divisor_up_to zero a b = 1
common_divisor_up_to (suc most) a b = if a % suc most == 0 && b % suc most == 0 then suc most else common_divisor_up_to most a b

-- the greatest common divisor of a number and one that is at least 1
abbrev pub common_divisor : ℕ → ℕ → ℕ
common_divisor a b = common_divisor_up_to b a b

-- a numerator and a denominator in lowest terms
abbrev pub lowest : ℕ → ℕ → Ratio
lowest numerator denominator =
    record { numerator = numerator / common_divisor numerator denominator; denominator = denominator / common_divisor numerator denominator }
