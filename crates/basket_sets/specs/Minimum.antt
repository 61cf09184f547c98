-- The least support that is asked for.
use Rattle.std.specs.Prelude.{◌≡◌, ◌≤◌, ℕ, ◌+◌, ◌*◌, Bool, ◌&&◌, nat_le, if◌then◌else◌, List, Option, Some, None, option_map}
use Rattle.basket_sets.specs.declared.minimum.Minimum.{Minimum}
use Rattle.basket_sets.specs.declared.minimum.Minimum.TheVariants.{Count, Share}
use Rattle.basket_sets.specs.Number.{number_of}
use Rattle.basket_sets.specs.Share.{share_of}

-- whether a support meets a minimum in a database of so much weight: it is at least 1, and at least the count, or the share of the total
abbrev pub meets : Minimum → ℕ → ℕ → Bool
meets (Count least) support total = nat_le 1 support && nat_le least support
meets (Share share) support total = nat_le 1 support && nat_le (share.0 * total) (support * share.1)

-- the least support that meets a minimum in a database of so much weight, and one more than that weight where none does: a support meets the minimum exactly where it is at least that
pub record IsLeastSupport (minimum : Minimum) (total least : ℕ) : Type 0 where
  pub some : 1 ≤ least
  pub within : least ≤ total + 1
  pub met : (support : ℕ) → support ≤ total → meets minimum support total ≡ nat_le least support

-- the least number whose product with the denominator of a share is at least that of the numerator and the total
abbrev pub IsLeastPart : ℕ × ℕ → ℕ → ℕ → Type 0
IsLeastPart share total least = (number : ℕ) → nat_le (share.0 * total) (number * share.1) ≡ nat_le least number

-- the greatest count of a minimum
abbrev pub GREATEST_COUNT : ℕ
GREATEST_COUNT = 1099511627775

-- a count of at least 1 where a number is written, else the other minimum
abbrev pub count_minimum : Option ℕ → Option Minimum → Option Minimum
count_minimum (Some least) other = if nat_le 1 least then Some (Count least) else None
count_minimum None other = other

-- the minimum that a text writes: a count of at least 1 as digits alone, or a share
abbrev pub minimum_of : List ℕ → Option Minimum
minimum_of text = count_minimum (number_of GREATEST_COUNT text) (option_map Share (share_of text))

-- a minimum that may be asked for: each share, and a count in its range
abbrev pub IsMinimum : Minimum → Type 0
IsMinimum (Count least) = (1 ≤ least) × (least ≤ GREATEST_COUNT)
IsMinimum (Share share) = Unit {0}
