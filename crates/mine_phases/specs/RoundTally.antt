-- The sets that the workers of a round have found together.
use Rattle.std.specs.Prelude.{◌≡◌, ◌≤◌, ◌<◌, ◌+◌, ℕ, Bool, IsTrue, [], length, nat_lt, slice_index}
use Rattle.mine_round.specs.Record.{unused}
use Rattle.mine_round.specs.RoundView.{RoundView}
use Rattle.mine_round.specs.SeatView.{SeatView}
use Rattle.mine_phases.specs.declared.round_tally.TheConstants.{PORTION}

-- a tally: its round and its seat, its limit, how many sets were told to it, how many of these its seat has yet to add, and whether it is over
pub record TallyView : Type 0 where
  pub round : RoundView
  pub seat : SeatView
  pub limit : ℕ
  pub told : ℕ
  pub waiting : ℕ
  pub over : Bool

-- a seat of no round
abbrev pub no_seat : SeatView
no_seat = record { round = record { words = 0; slots = 0; views_name = 0; atom = 0; block = 0; offset = 0; slot_names = [] }; held = unused 0 0 }

-- a seat without what it did to counters
abbrev pub still : SeatView → SeatView
still seat = record seat { held = record seat.held { added = []; seen = [] } }

-- the seat of a round with one counter, where it has seen no less than it added
pub record CountsSets (round : RoundView) (seat : SeatView) : Type 0 where
  pub own : seat.round ≡ round.id
  pub counter : round.counters ≡ 1
  pub one_added : length seat.held.added ≡ 1
  pub one_seen : length seat.held.seen ≡ 1
  pub known : slice_index seat.held.added 0 ≤ slice_index seat.held.seen 0

-- the tally counts in the one counter of its round: its seat added there what was reported since the start, except what waits, and it is over where the seat has last seen more there than the limit; then none waits
pub record IsRoundTally (start : SeatView) (tally : TallyView) : Type 0 where
  pub counts : CountsSets tally.round tally.seat
  pub same : still tally.seat ≡ still start
  pub all_told : slice_index tally.seat.held.added 0 + tally.waiting ≡ slice_index start.held.added 0 + tally.told
  pub few_wait : tally.waiting < PORTION
  pub none_waits : IsTrue tally.over → tally.waiting ≡ 0
  pub above : tally.over ≡ nat_lt tally.limit (slice_index tally.seat.held.seen 0)
