use Rattle.std.proofs.Common.{ℕ, ◌≡◌, Bool, ◌&&◌, List, length, not, take}
use Rattle.basket_sets.specs.Itemset.{has}
use Rattle.mine_rows.specs.Marks.{IsMarked}
use Rattle.mine_rows.proofs.marks.Marks.clear.Given as goal

abbrev pub invariant-loop-tid : goal.invariant-loop-tid
invariant-loop-tid l = record {
  long : length l.self.weights.items ≡ length l.initial.self.weights.items;
  marked : (weights : List ℕ) (test : ℕ → Bool) → IsMarked weights test l.initial.self → IsMarked weights (λ tid. not (has (take l.tid-index l.tids) tid) && test tid) l.self;
}
