use Rattle.std.proofs.Common.{◌≡◌, ℕ, ◌+◌, ◌≤◌, List, get_or, length, take}
use Rattle.mine_vertical.specs.LocalBaskets.{baskets_in}
use Rattle.mine_vertical.specs.Projected.{numbers_in, siblings_in}
use Rattle.mine_vertical.specs.Siblings.{AreKept, AreSiblings}
use Rattle.mine_vertical.proofs.siblings.Siblings.joined.Given as goal

abbrev pub invariant-loop-other : goal.invariant-loop-other
invariant-loop-other g l = record {
  joins : l.joins.number ≡ l.initial.joins.number + l.other-index;
  within : l.kept ≤ length l.list.items;
  kept : (set : List ℕ) → AreSiblings g.R.Row.stands l.self.local.value (siblings_in l.self) set
      → AreKept g.R.Row.stands l.self.least (get_or (numbers_in l.self) l.at 0) (take l.other-index (take l.at l.self.list.items)) (take l.kept l.list.items) (baskets_in l.self.local.value) set;
}
