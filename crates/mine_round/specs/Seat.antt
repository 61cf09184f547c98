-- What the fields of a seat show, and what holds of them.
use Rattle.std.specs.Prelude.{◌≡◌, if◌then◌else◌}
use Rattle.mine_round.specs.declared.seat.RoundSeat.TheInside.{Inside}
use Rattle.mine_round.specs.SeatView.{SeatView}
use Rattle.mine_round.specs.Words.{record_in, HoldsRecord}

abbrev pub seat_view : Inside → SeatView
seat_view s = record { round = s.table_seat.table_id; held = record_in s.table_seat.me.0 }

-- the seat holds a record, stands for itself alone, and remembers whether it was answered None
pub record IsSoundSeat (s : Inside) : Type 0 where
  pub holds : HoldsRecord s.table_seat
  pub alone : (record_in s.table_seat.me.0).parts ≡ 1
  pub past : (record_in s.table_seat.me.0).past ≡ (if s.past then 1 else 0)
