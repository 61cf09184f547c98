-- Words of bits, and how many bits two lists of words share.
use Rattle.std.specs.Prelude.{ℕ, zero, suc, ◌+◌, ◌-◌, Bool, List, [], ◌∷◌, bit_and, count_ones, map}
use Rattle.std.specs.Int.{div_ceil}
use Rattle.std.specs.List.{range_with_len}
use Rattle.std.specs.Simd.Lanes.{mask_l}
use Rattle.basket_sets.specs.Itemset.{has}

-- how many words `and_count` takes at most
abbrev pub MOST_WORDS : ℕ
MOST_WORDS = 67108864

-- at how many bits two lists of words both have a one
abbrev pub shared_bits : List ℕ → List ℕ → ℕ
shared_bits [] second = 0
shared_bits (x ∷ xs) [] = 0
shared_bits (x ∷ xs) (y ∷ ys) = count_ones (bit_and x y) + shared_bits xs ys

-- and if the words are in chunks
abbrev pub shared_in_chunks : List (List ℕ) → List (List ℕ) → ℕ
shared_in_chunks [] second = 0
shared_in_chunks (x ∷ xs) [] = 0
shared_in_chunks (x ∷ xs) (y ∷ ys) = shared_bits x y + shared_in_chunks xs ys

-- the word of the 64 tids from one on: its bit b is one where tid start + b passes a test
unfoldable pub word_at : (ℕ → Bool) → ℕ → ℕ
word_at test start = mask_l (map test (range_with_len start 64))

-- so many words, the first of which begins with a tid
abbrev pub words_from : (ℕ → Bool) → ℕ → ℕ → List ℕ
words_from test start zero = []
words_from test start (suc count) = word_at test start ∷ words_from test (start + 64) count

-- how many words have a bit for each of so many tids: one or more
abbrev pub word_count : ℕ → ℕ
word_count tids = suc (div_ceil tids 64 - 1)

-- the words of so many tids with a one where a tid is in a cover
abbrev pub words_of : ℕ → List ℕ → List ℕ
words_of tids cover = words_from (has cover) 0 (word_count tids)
