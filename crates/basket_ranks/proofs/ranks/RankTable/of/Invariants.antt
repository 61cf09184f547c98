use Rattle.std.proofs.Common.{◌≡◌, ◌≤◌, ℕ, length, take}
use Rattle.std.specs.BTreeMap.{get}
use Rattle.std.specs.Ordering.{nat_cmp}
use Rattle.basket_ranks.specs.Codes.{rank_of}
use Rattle.basket_ranks.specs.Ranks.{AreSlots}
use Rattle.basket_ranks.proofs.ranks.RankTable.of.Given as goal

abbrev pub invariant-loop-rank : goal.invariant-loop-rank
invariant-loop-rank l = record {
  slots : AreSlots (take l.rank l.ranked) l.slots.items;
  others : (item : ℕ) → length l.slots.items ≤ item → get nat_cmp l.others item ≡ rank_of (take l.rank l.ranked) item;
}
