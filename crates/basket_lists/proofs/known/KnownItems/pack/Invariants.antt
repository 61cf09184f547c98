use Rattle.std.proofs.Common.{◌≡◌, take}
use Rattle.basket_lists.specs.Packed.{IsPacked, code_of, count_of, set_of}
use Rattle.basket_lists.proofs.known.KnownItems.pack.Given as goal

-- the word has the items so far
abbrev pub invariant-loop-item : goal.invariant-loop-item
invariant-loop-item l = IsPacked l.self l.packed × (set_of l.self (code_of l.self l.packed) ≡ take l.item-index l.set) × (count_of l.self l.packed ≡ l.count)
