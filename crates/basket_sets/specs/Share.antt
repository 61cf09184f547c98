-- Shares of a whole, and the texts that write them.
use Rattle.std.specs.Prelude.{◌≤◌, ℕ, Bool, ◌&&◌, nat_le, nat_lt, ◌==◌, if◌then◌else◌, List, length, Option, Some, None}
use Rattle.std.specs.List.{position_or_len, before_first, after_first}
use Rattle.basket_sets.specs.Number.{number_of}

-- a numerator and a denominator make a share: the denominator is at least 1, and the numerator at most the denominator
abbrev pub IsShare : ℕ × ℕ → Type 0
IsShare share = (1 ≤ share.1) × (share.0 ≤ share.1)

-- the bytes of `/` and `%`
abbrev pub SLASH : ℕ
SLASH = 47

abbrev pub PERCENT : ℕ
PERCENT = 37

-- the greatest numerator or denominator
abbrev pub GREATEST_PART : ℕ
GREATEST_PART = 4294967295

-- the share of a numerator and a denominator, where they make one
abbrev pub ratio_of : Option ℕ → Option ℕ → Option (ℕ × ℕ)
ratio_of (Some numerator) (Some denominator) = if nat_le 1 denominator && nat_le numerator denominator then Some (numerator, denominator) else None
ratio_of (Some numerator) None = None
ratio_of None denominator = None

-- whether the byte stands in the text
abbrev pub has_byte : ℕ → List ℕ → Bool
has_byte byte text = nat_lt (position_or_len (λ other. other == byte) text) (length text)

-- the text before the byte's first occurrence, and the text after it
abbrev pub text_before : ℕ → List ℕ → List ℕ
text_before byte text = before_first (λ other. other == byte) text

abbrev pub text_after : ℕ → List ℕ → List ℕ
text_after byte text = after_first (λ other. other == byte) text

-- the share that a text writes as a percentage: `22%` as digits and a percent sign
abbrev pub percentage_of : List ℕ → Option (ℕ × ℕ)
percentage_of text = if has_byte PERCENT text && length (text_after PERCENT text) == 0 then ratio_of (number_of GREATEST_PART (text_before PERCENT text)) (Some 100) else None

-- the share that a text writes: `2/9` as digits, a slash and digits, or a percentage
abbrev pub share_of : List ℕ → Option (ℕ × ℕ)
share_of text =
    if has_byte SLASH text then ratio_of (number_of GREATEST_PART (text_before SLASH text)) (number_of GREATEST_PART (text_after SLASH text))
    else percentage_of text
