use Rattle.std.proofs.Common.{◌≡◌, ◌≤◌, ℕ, map, slice_index_or, take}
use Rattle.basket_sets.proofs.itemset.rename.Given as goal

-- the numbers before the index have their names, the others are as they were
abbrev pub invariant-loop-index : goal.invariant-loop-index
invariant-loop-index l = record {
  named : take l.index l.numbers ≡ map (λ number. slice_index_or l.names number 0) (take l.index l.initial.numbers);
  others : (later : ℕ) → l.index ≤ later → slice_index_or l.numbers later 0 ≡ slice_index_or l.initial.numbers later 0;
}
