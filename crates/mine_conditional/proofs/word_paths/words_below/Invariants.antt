use Rattle.std.proofs.Common.{◌≤◌, ◌<◌, ℕ, length, map, take}
use Rattle.std.specs.Prelude.{All}
use Rattle.std.specs.List.{flat_map, sum_by}
use Rattle.basket_ranks.specs.Codes.{decoded_basket}
use Rattle.basket_sets.specs.Itemset.{has}
use Rattle.mine_baskets.specs.declared.words.Word.{Word}
use Rattle.mine_classes.specs.Conditional.{kept_basket}
use Rattle.mine_baskets.specs.ListBaskets.{HaveSameWeights}
use Rattle.mine_baskets.specs.Words.{word_baskets}
use Rattle.mine_conditional.proofs.word_paths.words_below.Given as goal

abbrev pub invariant-loop-word : goal.invariant-loop-word
invariant-loop-word l = record {
  some : All (λ (word : Word). 1 ≤ word.weight) l.below.items;
  light : sum_by (λ (word : Word). word.weight) l.below.items ≤ sum_by (λ (word : Word). word.weight) (take l.word-index l.words);
  weights : (count : ℕ) → l.rank < count → HaveSameWeights (flat_map (kept_basket (has (map (λ (pair : ℕ × ℕ). pair.0) l.pairs)) l.rank) (word_baskets count (take l.word-index l.words)))
      (map (decoded_basket (map (λ (pair : ℕ × ℕ). pair.0) l.pairs)) (word_baskets (length (map (λ (pair : ℕ × ℕ). pair.0) l.pairs)) l.below.items));
}
