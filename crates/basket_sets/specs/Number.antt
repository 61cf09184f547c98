-- The numbers that texts of digits write.
use Rattle.std.specs.Prelude.{ℕ, ◌+◌, ◌*◌, ◌-◌, Bool, ◌&&◌, nat_le, nat_lt, if◌then◌else◌, List, length, fold, Option, Some, None}
use Rattle.std.specs.List.{list_all}

-- whether a byte is one of the digits from `0` to `9`
abbrev pub is_digit : ℕ → Bool
is_digit byte = nat_le 48 byte && nat_le byte 57

-- the decimal value of a text of digits
abbrev pub value_of : List ℕ → ℕ
value_of digits = fold (λ value byte. value * 10 + (byte - 48)) 0 digits

-- the number that one or more digits write, where it is at most the bound
abbrev pub number_of : ℕ → List ℕ → Option ℕ
number_of bound text =
    if nat_lt 0 (length text) && list_all is_digit text && nat_le (value_of text) bound then Some (value_of text) else None
