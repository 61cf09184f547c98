use Rattle.std.proofs.Common.{◌≡◌, ◌+◌, ◌-◌, ◌≤◌, [], vec_len, vec_capacity}
use Rattle.std.specs.Prelude.{All}
use Rattle.mine_round.specs.declared.state.SeatState.TheVariants.{Holding}
use Rattle.mine_round.specs.Record.{unused}
use Rattle.mine_round.proofs.seat.cut_seats.Given as goal

abbrev pub invariant-loop : goal.invariant-loop
invariant-loop l = record {
  own : l.table_seat.table_id ≡ l.words.shared.table_id;
  unused_yet : l.table_seat.me ≡ (Holding (unused (l.count + 1 - l.counter) l.words.shared.key.counters), []);
  dealt : All (λ seat. (seat.round ≡ l.words.shared.table_id) × (seat.held ≡ unused 1 l.words.shared.key.counters)) l.seats.items;
  number : vec_len l.seats + 1 ≡ l.counter;
  room : l.count ≤ vec_capacity l.seats;
}
