use Rattle.std.proofs.Common.{◌≡◌, ℕ, ◌-◌, ◌*◌, ◌/◌, ◌^◌, ◌<◌, ◌≤◌, get_or, length}
use Rattle.basket_lists.specs.Packed.{code_of, number_of, set_of}
use Rattle.basket_lists.proofs.known.KnownItems.put.Given as goal

-- the last items are put so far
abbrev pub invariant-loop-left : goal.invariant-loop-left
invariant-loop-left l = record {
  full : length l.room ≡ 63;
  few : l.left ≤ l.size;
  rest : l.rest ≡ number_of l.self (code_of l.self l.packed) / 2 ^ ((l.size - l.left) * l.self.item_bits);
  room : (k : ℕ) → l.left ≤ k → k < l.size → get_or l.room k 0 ≡ get_or (set_of l.self (code_of l.self l.packed)) k 0;
}

abbrev pub decreases-loop-left : goal.decreases-loop-left
decreases-loop-left l = l.left
