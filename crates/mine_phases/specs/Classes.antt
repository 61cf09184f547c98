-- Mining class by class, shared by workers.
use Rattle.std.specs.Prelude.{◌≡◌, ◌≤◌, ◌<◌, ◌-◌, ◌*◌, ◌%◌, ◌==◌, ◌⊎◌, ℕ, All, List, Err, IfOk, Vec, filter, length, map, slice_index}
use Rattle.std.specs.Global.{Global}
use Rattle.std.specs.List.{range_with_len, sum_by}
use Rattle.basket_ranks.specs.Codes.{Coding, IsCoding, frequent_of_coding}
use Rattle.mine_limit.specs.declared.fault.MineFault.TheVariants.{TooMany}
use Rattle.basket_sets.specs.declared.counted.Counted.{Counted}
use Rattle.mine_classes.specs.Mined.{ListsClassItems, MOST_SET_WORK, class_size}
use Rattle.mine_round.specs.RoundView.{RoundView}
use Rattle.mine_round.specs.SeatView.{SeatView}
use Rattle.mine_pieces.specs.declared.worker_result.WorkerResult.{WorkerResult}
use Rattle.mine_pieces.specs.Pieces.{HasEach, IsPieceShare}

-- the rank that has so many ranks after it
abbrev pub rank_from_end : ℕ → ℕ → ℕ
rank_from_end ranks index = ranks - 1 - index

-- the numbers below a count that are a claimed number modulo the number of pieces
abbrev pub indexes_of : ℕ → ℕ → ℕ → List ℕ
indexes_of pieces claimed count = filter (λ index. index % pieces == claimed) (range_with_len 0 count)

-- the ranks that are mined for a claimed number: from the greatest on, the pieces have them in turn
abbrev pub ranks_of : Coding → ℕ → ℕ → List ℕ
ranks_of coding pieces claimed = map (rank_from_end (length coding.items)) (indexes_of pieces claimed (length coding.items))

-- how many sets the classes of these ranks have
abbrev pub claimed_size : Coding → ℕ → ℕ → ℕ
claimed_size coding pieces claimed = sum_by (class_size coding) (ranks_of coding pieces claimed)

-- the class of a rank, and the work that it took: no more than its sets can take, and that of the rank if what this rests on holds
pub record IsMined (coding : Coding) (rests_on : Type 0) (work : ℕ → ℕ) (rank : ℕ) (class : List Counted × ℕ) : Type 0 where
  pub listed : ListsClassItems coding rank class.0
  pub worked : rests_on → class.1 ≡ work rank
  pub few : class.1 ≤ class_size coding rank * MOST_SET_WORK

-- each of these is a rank with its class
abbrev pub AreMined : Coding → Type 0 → (ℕ → ℕ) → List (ℕ × (List Counted × ℕ)) → Type 0
AreMined coding rests_on work values = All (λ value. IsMined coding rests_on work value.0 value.1) values

-- the classes of all ranks of a coding, which have no more sets together than the limit
pub record AreAllMined (coding : Coding) (rests_on : Type 0) (work : ℕ → ℕ) (limit : ℕ) (classes : List (List Counted × ℕ)) : Type 0 where
  pub is_coding : IsCoding coding
  pub each : HasEach (IsMined coding rests_on work) (length coding.items) classes
  pub within : length (frequent_of_coding coding) ≤ limit

-- a class alone has more sets than the limit
pub record HasLargeClass (coding : Coding) (limit : ℕ) : Type 0 where
  pub rank : ℕ
  pub within : rank < length coding.items
  pub large : limit < class_size coding rank

-- a seat told so many sets for each number that it claimed, and last saw no more than the limit
pub record ToldAll (size : ℕ → ℕ) (limit : ℕ) (seat : SeatView) : Type 0 where
  pub told : slice_index seat.held.added 0 ≡ sum_by size seat.held.claimed
  pub within : slice_index seat.held.seen 0 ≤ limit

-- what a worker hands back: its seat, which told no more sets than the pieces have that it claimed, and the classes of their ranks, of which it told each set, or why it stopped
pub record IsClassShare (round : RoundView) (coding : Coding) (rests_on : Type 0) (work : ℕ → ℕ) (limit pieces : ℕ) (share : WorkerResult (Vec (ℕ × (List Counted × ℕ)) Global)) : Type 0 where
  pub of_ranks : IsPieceShare (IsMined coding rests_on work) (ranks_of coding pieces) round share
  pub at_most : slice_index share.seat.held.added 0 ≤ sum_by (claimed_size coding pieces) share.seat.held.claimed
  pub told : IfOk share.values (λ _. ToldAll (claimed_size coding pieces) limit share.seat)
  pub too_many : (most : ℕ) → share.values ≡ Err (TooMany most) → (most ≡ limit) × ((limit < slice_index share.seat.held.seen 0) ⊎ HasLargeClass coding limit)
