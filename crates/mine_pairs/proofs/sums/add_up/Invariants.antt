use Rattle.std.proofs.Common.{◌≡◌, ◌<◌, ℕ, length, get_or, take}
use Rattle.mine_baskets.specs.Baskets.{baskets_in}
use Rattle.mine_pairs.specs.Sums.{AreSums, weight_with}
use Rattle.mine_pairs.proofs.sums.add_up.Given as goal

abbrev pub invariant-loop-index : goal.invariant-loop-index
invariant-loop-index l = record {
  sums : AreSums (length l.initial.sums) l.sums l.found;
  added : (rank : ℕ) → rank < length l.initial.sums → get_or l.sums rank 0 ≡ weight_with rank (take l.index (baskets_in l.baskets));
}
