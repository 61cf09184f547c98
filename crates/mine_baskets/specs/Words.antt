-- Baskets of up to 64 ranks, each as the bits of a word.
use Rattle.std.specs.Prelude.{◌≤◌, ◌<◌, ◌-◌, ◌^◌, ◌==◌, ℕ, Bool, bit_or, List, All, filter, fold, length, map, slice_index_or}
use Rattle.std.specs.Int.{bit_at}
use Rattle.std.specs.List.{AllAdjacentBelow, range_with_len, sum_by}
use Rattle.basket_sets.specs.declared.weighted.Weighted.{Weighted}
use Rattle.basket_sets.specs.Database.{MOST_WEIGHT, weighted}
use Rattle.mine_baskets.specs.declared.words.TheConstants.{WORD_RANKS}
use Rattle.mine_baskets.specs.declared.words.Word.{Word}

-- whether some bits have that of a rank; rank 0 has the highest
abbrev pub has_rank : ℕ → ℕ → Bool
has_rank bits rank = bit_at bits (63 - rank) == 1

-- the ranks below a number that some bits have
abbrev pub ranks_in : ℕ → ℕ → List ℕ
ranks_in count bits = filter (has_rank bits) (range_with_len 0 count)

-- the basket of a word
abbrev pub word_basket : ℕ → Word → Weighted
word_basket count word = weighted (ranks_in count word.bits) word.weight

abbrev pub word_baskets : ℕ → List Word → List Weighted
word_baskets count words = map (word_basket count) words

-- the words stand in order, no two of them equal
abbrev pub AreInOrder : List Word → Type 0
AreInOrder words = AllAdjacentBelow (λ word next. word.bits < next.bits) words (length words)

-- the last word, if there is one, has these bits or lower ones
abbrev pub EndsBy : ℕ → List Word → Type 0
EndsBy bits words = (last : Word) → 0 < length words → (slice_index_or words (length words - 1) last).bits ≤ bits

-- what words of so many ranks are, where they are kept as baskets
pub record KeepsWords (count : ℕ) (words : List Word) : Type 0 where
  pub few : count ≤ WORD_RANKS
  pub some : All (λ word. 1 ≤ word.weight) words
  pub light : sum_by (λ word. word.weight) words ≤ MOST_WEIGHT
  pub order : AreInOrder words

-- the bits of ranks
abbrev pub rank_bits : List ℕ → ℕ
rank_bits ranks = fold (λ bits rank. bit_or bits (2 ^ (63 - rank))) 0 ranks
