use Rattle.std.proofs.Common.{◌≡◌, ◌<◌, ◌≤◌, ℕ, None, get_or}
use Rattle.basket_sets.specs.Slot.{slots_joined}
use Rattle.basket_sets.proofs.counts.add_slots.Given as goal

abbrev pub invariant-loop-item : goal.invariant-loop-item
invariant-loop-item l = record {
  done : (number : ℕ) → number < l.item → get_or l.table number None ≡ slots_joined (get_or l.initial.table number None) (get_or l.more number None);
  left : (number : ℕ) → l.item ≤ number → get_or l.table number None ≡ get_or l.initial.table number None;
}
