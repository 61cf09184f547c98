use Rattle.std.proofs.Common.{ℕ, ◌-◌, ◌<◌, ◌≤◌, List, get_or, map}
use Rattle.std.specs.Prelude.{All}
use Rattle.basket_lists.specs.Packed.{IsKept, code_of, kept, set_of}
use Rattle.basket_lists.specs.Without.{IsIndexWithout}
use Rattle.basket_order.specs.declared.index_table.TheConstants.{NOWHERE}
use Rattle.basket_sets.specs.declared.counted.Counted.{Counted}
use Rattle.basket_lists.proofs.known.KnownItems.indexes_without.Given as goal

-- the indexes beside the last items are found so far
abbrev pub invariant-loop-after : goal.invariant-loop-after
invariant-loop-after l = record {
  few : l.after ≤ l.size;
  found : (plain : List Counted) → All (IsKept l.self plain) l.words → (k : ℕ) → l.size - l.after ≤ k → k < l.size
      → IsIndexWithout (map (kept l.self plain) l.words) (set_of l.self (code_of l.self l.packed)) (get_or (set_of l.self (code_of l.self l.packed)) k 0) (get_or l.found k NOWHERE);
}

abbrev pub decreases-loop-after : goal.decreases-loop-after
decreases-loop-after l = l.size - l.after
