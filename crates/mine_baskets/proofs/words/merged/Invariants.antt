use Rattle.std.proofs.Common.{◌≡◌, ◌≤◌, ◌<◌, ℕ, get_or, length, take}
use Rattle.std.specs.Prelude.{All}
use Rattle.std.specs.List.{sum_by}
use Rattle.mine_baskets.specs.declared.words.Word.{Word}
use Rattle.mine_baskets.specs.ListBaskets.{HaveSameWeights}
use Rattle.mine_baskets.specs.Words.{AreInOrder, EndsBy, word_baskets}
use Rattle.mine_baskets.proofs.words.merged.Given as goal

abbrev none : Word
none = record { bits = 0; weight = 0 }

abbrev pub invariant-loop-word : goal.invariant-loop-word
invariant-loop-word l = record {
  some : All (λ (word : Word). 1 ≤ word.weight) l.merged.items;
  light : sum_by (λ (word : Word). word.weight) l.merged.items ≡ sum_by (λ (word : Word). word.weight) (take l.word-index l.words);
  order : AreInOrder l.merged.items;
  end : (k : ℕ) → l.word-index ≤ k → k < length l.words → EndsBy (get_or l.words k none).bits l.merged.items;
  weights : (count : ℕ) → HaveSameWeights (word_baskets count (take l.word-index l.words)) (word_baskets count l.merged.items);
}
