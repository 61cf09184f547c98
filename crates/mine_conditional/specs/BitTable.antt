-- Baskets of ranks as the bits that a table has for them.
use Rattle.std.specs.Prelude.{◌-◌, ◌^◌, ℕ, bit_or, List, Option, Some, None, fold, slice_index}
use Rattle.basket_ranks.specs.Codes.{rank_of}
use Rattle.basket_sets.specs.declared.weighted.Weighted.{Weighted}
use Rattle.mine_baskets.specs.declared.words.Word.{Word}
use Rattle.mine_conditional.specs.LocalNumbers.{HasNumbers}

-- the bit of a rank, if there is one
abbrev pub option_bit : Option ℕ → ℕ
option_bit None = 0
option_bit (Some rank) = 2 ^ (63 - rank)

-- the bit of a rank's index in a list
abbrev pub number_bit : List ℕ → ℕ → ℕ
number_bit kept rank = option_bit (rank_of kept rank)

-- a table has the bit of each rank's index in a list
abbrev pub AreBits : List ℕ → List ℕ → Type 0
AreBits kept of = HasNumbers option_bit kept of

-- the bits that a table has for the ranks of a basket
abbrev pub table_bits : List ℕ → List ℕ → ℕ
table_bits of basket = fold (λ bits rank. bit_or bits (slice_index of rank)) 0 basket

-- a basket as the word of these bits
abbrev pub table_word : List ℕ → Weighted → Word
table_word of basket = record { bits = table_bits of basket.basket; weight = basket.weight }
