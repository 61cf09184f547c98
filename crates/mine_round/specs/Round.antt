-- What the fields of a round show, and what holds of them.
use Rattle.std.specs.Prelude.{◌≡◌, ◌+◌, ◌^◌, ◌<◌, ◌≤◌, vec_len}
use Rattle.mine_round.specs.declared.round.Round.TheInside.{Inside}
use Rattle.mine_round.specs.RoundView.{RoundView}

abbrev pub round_view : Inside → RoundView
round_view r = record { id = r.words.shared.table_id; pieces = r.terms.pieces; counters = r.terms.counters; seats = r.terms.seats }

-- the words are those of the terms: one for the pieces and one for each counter; there is a seat, and a place for each total
pub record IsSoundRound (r : Inside) : Type 0 where
  pub key : r.words.shared.key ≡ r.terms
  pub sized : r.words.shared.table_id.words ≡ r.terms.counters + 1
  pub no_slots : r.words.shared.table_id.slots ≡ 0
  pub fits : r.terms.counters + 1 < 2 ^ 64
  pub some_seat : 1 ≤ r.terms.seats
  pub room : vec_len r.totals ≡ r.terms.counters
