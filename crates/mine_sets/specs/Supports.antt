-- The supports of sets over the parts of a list of baskets, added to counters.
use Rattle.std.specs.Prelude.{◌≡◌, ◌<◌, ℕ, List, [], IfOk, length, slice_index, slice_index_or}
use Rattle.std.specs.List.{sum_by}
use Rattle.basket_ranks.specs.Shards.{shard_of}
use Rattle.basket_sets.specs.declared.weighted.Weighted.{Weighted}
use Rattle.basket_sets.specs.Support.{support_of}
use Rattle.mine_round.specs.RoundView.{RoundView}
use Rattle.mine_round.specs.SeatView.{SeatView}
use Rattle.mine_pieces.specs.declared.worker_result.WorkerResult.{WorkerResult}

-- the support of a set in a part of the baskets
abbrev pub part_support : List Weighted → ℕ → List ℕ → ℕ → ℕ
part_support baskets pieces set piece = support_of (shard_of piece pieces baskets) set

-- a seat added to each set's counter the set's supports in the parts that it claimed, and it was answered that no part is left
pub record AddsSupports (baskets : List Weighted) (pieces : ℕ) (sets : List (List ℕ)) (seat : SeatView) : Type 0 where
  pub ended : 0 < seat.held.past
  pub added : (k : ℕ) → k < length sets → slice_index seat.held.added k ≡ sum_by (part_support baskets pieces (slice_index_or sets k [])) seat.held.claimed

-- what a worker hands back: its seat, and whether it found memory for all that it claimed
pub record IsSupportShare (round : RoundView) (baskets : List Weighted) (pieces : ℕ) (sets : List (List ℕ)) (share : WorkerResult (Unit {0})) : Type 0 where
  pub own : share.seat.round ≡ round.id
  pub values : IfOk share.values (λ _. AddsSupports baskets pieces sets share.seat)
