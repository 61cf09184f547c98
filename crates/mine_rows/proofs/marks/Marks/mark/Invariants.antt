use Rattle.std.proofs.Common.{ℕ, ◌≡◌, Bool, ◌||◌, length, take}
use Rattle.basket_sets.specs.Itemset.{has}
use Rattle.mine_rows.specs.Marks.{IsMarked}
use Rattle.mine_rows.proofs.marks.Marks.mark.Given as goal

abbrev pub invariant-loop-tid : goal.invariant-loop-tid
invariant-loop-tid l = record {
  long : length l.self.weights.items ≡ length l.weights;
  marked : (test : ℕ → Bool) → IsMarked l.weights test l.initial.self → IsMarked l.weights (λ tid. has (take l.tid-index l.tids) tid || test tid) l.self;
}
