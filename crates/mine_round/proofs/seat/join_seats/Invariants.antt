use Rattle.std.proofs.Common.{◌≡◌, vec_len}
use Rattle.std.specs.Prelude.{All}
use Rattle.mine_round.specs.Totals.{Gathers}
use Rattle.mine_round.specs.Words.{record_in, HoldsRecord}
use Rattle.mine_round.proofs.seat.join_seats.Given as goal

abbrev pub invariant-loop-seat : goal.invariant-loop-seat
invariant-loop-seat l = record {
  own : l.table_seat.table_id ≡ l.words.shared.table_id;
  holds : HoldsRecord l.table_seat;
  rest : All (λ s. s.round ≡ l.words.shared.table_id) l.seats.items;
  all : Gathers (record_in l.table_seat.me.0) l.seats.items l.fn.seats.items;
}

abbrev pub decreases-loop-seat : goal.decreases-loop-seat
decreases-loop-seat l = vec_len l.seats
