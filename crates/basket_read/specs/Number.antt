use Rattle.std.specs.Prelude.{ℕ, ◌+◌, ◌*◌, nat_le, if◌then◌else◌, Option, Some, None}
use Rattle.basket_read.specs.Fimi.{MOST_NUMBER}

-- a number with one digit more, if it is not above the bound
abbrev pub number_with : ℕ → ℕ → Option ℕ
number_with value digit = if nat_le (value * 10 + digit) MOST_NUMBER then Some (value * 10 + digit) else None
