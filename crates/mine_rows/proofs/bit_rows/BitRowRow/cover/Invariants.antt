use Rattle.std.proofs.Common.{◌≡◌, ℕ, List, length}
use Rattle.std.specs.List.{filter, range_with_len}
use Rattle.basket_sets.specs.Itemset.{has}
use Rattle.mine_rows.specs.Bits.{words_of}
use Rattle.mine_rows.proofs.bit_rows.BitRowRow.cover.Given as goal

abbrev pub invariant-loop-tid : goal.invariant-loop-tid
invariant-loop-tid l = (cover : List ℕ) → l.self.words.items ≡ words_of (length l.weights) cover → l.tids.items ≡ filter (has cover) (range_with_len 0 l.tid)
