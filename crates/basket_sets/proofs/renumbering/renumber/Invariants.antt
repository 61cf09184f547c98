use Rattle.std.proofs.Common.{◌≡◌, ◌≤◌, ℕ, slice_index_or, take}
use Rattle.std.specs.List.{filter_map}
use Rattle.basket_sets.proofs.renumbering.renumber.Given as goal

-- the names of the numbers before the index stand at the front, and from the index on the numbers are as they were
abbrev pub invariant-loop-index : goal.invariant-loop-index
invariant-loop-index g l = record {
  few : l.len ≤ l.index;
  named : take l.len l.numbers ≡ filter_map (g.N.Renumbering.name_of l.names) (take l.index l.initial.numbers);
  others : (later : ℕ) → l.index ≤ later → slice_index_or l.numbers later 0 ≡ slice_index_or l.initial.numbers later 0;
}
