-- Rows of bits of a block of baskets.
use Rattle.std.specs.Prelude.{◌≡◌, ◌<◌, ◌≤◌, ◌+◌, ◌*◌, ◌/◌, ◌%◌, ◌==◌, ℕ, Bool, List, length, slice_index}
use Rattle.std.specs.Int.{bit_at}
use Rattle.basket_sets.specs.declared.weighted.Weighted.{Weighted}
use Rattle.basket_sets.specs.Itemset.{has}
use Rattle.mine_supports.specs.declared.rows.Rows.{Rows}
use Rattle.mine_supports.specs.TidWord.{basket_at}

-- whether rows of so many words, one after another, have a bit for a tid in the row of a number
abbrev pub bit_in : List ℕ → ℕ → ℕ → ℕ → Bool
bit_in bits words number tid = bit_at (slice_index bits (number * words + tid / 64)) (tid % 64) == 1

-- a row for each item, with the tids of the baskets that have it
pub record AreRows (items : List ℕ) (baskets : List Weighted) (rows : Rows) : Type 0 where
  pub long : length rows.bits.items ≡ length items * rows.words
  pub enough : length baskets ≤ rows.words * 64
  pub each : (number tid : ℕ) → number < length items → tid < rows.words * 64 → bit_in rows.bits.items rows.words number tid ≡ has (basket_at baskets tid) (slice_index items number)
