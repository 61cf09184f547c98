-- Shifts of bits to those of local numbers.
use Rattle.std.specs.Prelude.{◌≡◌, ◌<◌, ◌*◌, ◌%◌, ◌^◌, ◌&&◌, ℕ, All, List, bit_and, nat_lt, slice_index}
use Rattle.std.specs.List.{list_any}
use Rattle.mine_baskets.specs.declared.words.TheConstants.{WORD_RANKS}
use Rattle.mine_baskets.specs.Words.{has_rank}
use Rattle.mine_conditional.specs.declared.shift.Shift.{Shift}

-- what one shift brings to its mask
abbrev pub shifted : ℕ → Shift → ℕ
shifted bits shift = bit_and (bits * 2 ^ shift.by % 18446744073709551616) shift.mask

-- together the shifts bring the bits of the first kept ranks to those of their local numbers, and no others
pub record AreShifts (kept : List ℕ) (count : ℕ) (shifts : List Shift) : Type 0 where
  pub low : All (λ (shift : Shift). shift.by < WORD_RANKS) shifts
  pub bring : (bits number : ℕ) → number < WORD_RANKS → list_any (λ shift. has_rank (shifted bits shift) number) shifts ≡ (nat_lt number count && has_rank bits (slice_index kept number))
