use Rattle.std.proofs.Common.{ℕ, ◌≡◌, ◌<◌, [], get_or, length}
use Rattle.mine_baskets.specs.Baskets.{baskets_in}
use Rattle.mine_baskets.specs.Covers.{covers_in}
use Rattle.mine_baskets.proofs.CoversLemmas.{tids_below}
use Rattle.mine_baskets.proofs.baskets.Baskets.covers.Given as goal

abbrev pub invariant-loop-tid : goal.invariant-loop-tid
invariant-loop-tid l = record {
  long : length (covers_in l.covers.items) ≡ l.self.count;
  at : (rank : ℕ) → rank < l.self.count → get_or (covers_in l.covers.items) rank [] ≡ tids_below (baskets_in l.self) l.tid rank;
}
