use Rattle.std.proofs.Common.{◌≡◌, ◌≤◌, ◌<◌, ℕ, false, None, get_or, take, unwrap_or}
use Rattle.std.specs.List.{IsDistinct}
use Rattle.std.specs.Prelude.{nat_eq}
use Rattle.basket_sets.specs.Itemset.{has}
use Rattle.basket_sets.proofs.counts.put_slots.Given as goal

abbrev pub invariant-loop-item : goal.invariant-loop-item
invariant-loop-item l = record {
  named : IsDistinct nat_eq l.names → (before : ℕ) → before < l.item → get_or l.table (get_or l.names before 0) None ≡ get_or l.slots before None;
  others : (name : ℕ) → has (take l.item l.names) name ≡ false → get_or l.table name None ≡ get_or l.initial.table name None;
  bounded : (most : ℕ) → ((other : ℕ) → unwrap_or (get_or l.slots other None) 0 ≤ most) → ((other : ℕ) → unwrap_or (get_or l.initial.table other None) 0 ≤ most)
      → (other : ℕ) → unwrap_or (get_or l.table other None) 0 ≤ most;
}
