use Rattle.std.proofs.Common.{◌≡◌, ℕ, ◌-◌, ◌*◌, ◌/◌, ◌^◌, ◌<◌, ◌≤◌}
use Rattle.basket_lists.specs.Packed.{digits}
use Rattle.basket_sets.proofs.theory.Members.{Member}
use Rattle.basket_lists.proofs.known.KnownItems.digits_above.Given as goal

-- the last indexes so far are greater
abbrev pub invariant-loop-above : goal.invariant-loop-above
invariant-loop-above l = record {
  few : l.above ≤ l.size;
  rest : l.rest ≡ l.number / 2 ^ (l.above * l.self.item_bits);
  greater : (other : ℕ) → Member other (digits l.self.item_bits l.above l.number) → l.index < other;
}

abbrev pub decreases-loop-above : goal.decreases-loop-above
decreases-loop-above l = l.size - l.above
