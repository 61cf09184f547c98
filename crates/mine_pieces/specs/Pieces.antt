-- The values of parts, of which pieces have some.
use Rattle.std.specs.Prelude.{◌≡◌, ◌<◌, ℕ, List, All, IfOk, Vec, length, slice_index_or}
use Rattle.std.specs.Global.{Global}
use Rattle.std.specs.List.{flat_map, range_with_len}
use Rattle.basket_ranks.specs.Shards.{shard_of}
use Rattle.mine_round.specs.RoundView.{RoundView}
use Rattle.mine_round.specs.SeatView.{SeatView}
use Rattle.mine_pieces.specs.declared.worker_result.WorkerResult.{WorkerResult}
use Rattle.mine_pieces.specs.WorkerResult.{numbers_of}

-- the parts that a piece has
abbrev pub parts_of : ℕ → ℕ → ℕ → List ℕ
parts_of parts pieces piece = shard_of piece pieces (range_with_len 0 parts)

module _ {V : Type 0} (is_value : ℕ → V → Type 0) where
  -- the values are those of the parts of the pieces that a seat claimed, in their order, and it was answered that no piece is left
  pub record AreOfPieces (parts : ℕ → List ℕ) (seat : SeatView) (values : List (ℕ × V)) : Type 0 where
    pub ended : 0 < seat.held.past
    pub claimed : numbers_of values ≡ flat_map parts seat.held.claimed
    pub each : All (λ value. is_value value.0 value.1) values

  -- what a worker hands back: its seat, and where it did not stop before the end its values
  pub record IsPieceShare (parts : ℕ → List ℕ) (round : RoundView) (share : WorkerResult (Vec (ℕ × V) Global)) : Type 0 where
    pub own : share.seat.round ≡ round.id
    pub values : IfOk share.values (λ values. AreOfPieces parts share.seat values.items)

  -- there is a value for each part
  pub record HasEach (parts : ℕ) (values : List V) : Type 0 where
    pub count : length values ≡ parts
    pub each : (part : ℕ) (value : V) → part < parts → is_value part (slice_index_or values part value)
