use Rattle.std.proofs.Common.{◌≡◌, ◌≤◌, ℕ, map, take}
use Rattle.std.specs.Prelude.{All}
use Rattle.std.specs.List.{sum_by}
use Rattle.basket_sets.specs.Support.{total_of}
use Rattle.mine_baskets.specs.declared.words.Word.{Word}
use Rattle.mine_baskets.specs.Baskets.{baskets_in}
use Rattle.mine_baskets.specs.ListBaskets.{HaveSameWeights}
use Rattle.mine_baskets.specs.Words.{word_baskets}
use Rattle.mine_conditional.specs.BitTable.{table_word}
use Rattle.mine_conditional.proofs.bit_table.words_of.Given as goal

abbrev pub invariant-loop-index : goal.invariant-loop-index
invariant-loop-index l = record {
  some : All (λ (word : Word). 1 ≤ word.weight) l.words.items;
  light : sum_by (λ (word : Word). word.weight) l.words.items ≡ total_of (take l.index (baskets_in l.baskets));
  weights : (count : ℕ) → HaveSameWeights (word_baskets count (map (table_word l.of) (take l.index (baskets_in l.baskets)))) (word_baskets count l.words.items);
}
