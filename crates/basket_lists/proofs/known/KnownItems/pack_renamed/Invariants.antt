use Rattle.std.proofs.Common.{◌≡◌, ◌≤◌, drop, length, map, slice_index_or}
use Rattle.basket_lists.specs.Packed.{IsPacked, code_of, count_of, set_of}
use Rattle.basket_sets.specs.Itemset.{rising}
use Rattle.basket_lists.proofs.known.KnownItems.pack_renamed.Given as goal

-- the word has the names of the last numbers
abbrev pub invariant-loop-left : goal.invariant-loop-left
invariant-loop-left l =
    IsPacked l.self l.packed × (set_of l.self (code_of l.self l.packed) ≡ rising (map (λ number. slice_index_or l.names number 0) (drop l.left l.numbers)))
    × (count_of l.self l.packed ≡ l.count) × (l.left ≤ length l.numbers)

abbrev pub decreases-loop-left : goal.decreases-loop-left
decreases-loop-left l = l.left
