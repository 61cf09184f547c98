-- The round machine: what the threads of a round share, and the five events that change it. Its numbers are natural numbers, so none is below 0.
use Rattle.std.specs.Prelude.{◌≡◌, ◌≢◌, ℕ, zero, suc, ◌+◌, ◌<◌, ◌==◌, nat_lt, List, [], ◌∷◌, ◌++◌, length, Option, Some, None, if◌then◌else◌, replicate, slice_index, slice_set}
use Rattle.mine_round.specs.declared.state.Record.{Record}
use Rattle.mine_round.specs.declared.state.SeatState.{SeatState}
use Rattle.mine_round.specs.declared.state.SeatState.TheVariants.{Spent, Holding}
use Rattle.mine_round.specs.Record.{unused, with_one_part_less, with_claim, with_add, with_read, joined}

-- the number of pieces, the number of seats in all, the piece word, the counters, and each seat that was made
pub record Machine : Type 0 where
  pub pieces : ℕ
  pub parts : ℕ
  pub next : ℕ
  pub counters : List ℕ
  pub seats : List SeatState

-- what one seat does: the first number is that of the seat, counted from 0 in the order in which seats were made
pub data Event : Type 0 where
  -- a seat is cut from it
  split : ℕ → Event
  -- it claims a piece
  claim : ℕ → Event
  -- it adds to a counter this amount
  add : ℕ → ℕ → ℕ → Event
  -- it reads a counter
  read : ℕ → ℕ → Event
  -- another seat joins it
  join : ℕ → ℕ → Event

-- at the opening one seat stands for all
abbrev pub opening : ℕ → ℕ → ℕ → Machine
opening pieces counters parts = record {
  pieces = pieces;
  parts = parts;
  next = 0;
  counters = replicate counters 0;
  seats = Holding (unused parts counters) ∷ [];
}

-- the record of a seat that is not spent
abbrev pub record_of : SeatState → Option Record
record_of Spent = None
record_of (Holding r) = Some r

-- the record of the seat with this number, if there is such a seat and it is not spent
abbrev pub record_at : List SeatState → ℕ → Option Record
record_at [] i = None
record_at (seat ∷ seats) zero = record_of seat
record_at (seat ∷ seats) (suc i) = record_at seats i

-- the state after a seat with this record was cut in two
abbrev pub after_split : Machine → ℕ → Record → Machine
after_split m i r = record m { seats = slice_set m.seats i (Holding (with_one_part_less r)) ++ Holding (unused 1 (length m.counters)) ∷ [] }

-- the state after a claim
abbrev pub after_claim : Machine → ℕ → Record → Machine
after_claim m i r = record m { next = m.next + 1; seats = slice_set m.seats i (Holding (with_claim r m.pieces m.next)) }

-- the state after an add
abbrev pub after_add : Machine → ℕ → ℕ → ℕ → Record → Machine
after_add m i counter amount r = record m {
  counters = slice_set m.counters counter (slice_index m.counters counter + amount);
  seats = slice_set m.seats i (Holding (with_add r counter (slice_index m.counters counter) amount));
}

-- the state after a read
abbrev pub after_read : Machine → ℕ → ℕ → Record → Machine
after_read m i counter r = record m { seats = slice_set m.seats i (Holding (with_read r counter (slice_index m.counters counter))) }

-- the state after the second seat joined the first
abbrev pub after_join : Machine → ℕ → Record → ℕ → Record → Machine
after_join m i r j other = record m { seats = slice_set (slice_set m.seats i (Holding (joined r other))) j Spent }

-- what becomes of the state by what a seat does, if the seat has a record
abbrev pub by_record : Machine → Option Record → (Record → Machine) → Machine
by_record m None f = m
by_record m (Some r) f = f r

-- the state after an event; one that does not fit changes nothing
abbrev pub after : Machine → Event → Machine
after m (split i) = by_record m (record_at m.seats i) (λ r. if nat_lt 1 r.parts then after_split m i r else m)
after m (claim i) = by_record m (record_at m.seats i) (λ r. if r.past == 0 then after_claim m i r else m)
after m (add i counter amount) = by_record m (record_at m.seats i) (λ r. if nat_lt counter (length m.counters) then after_add m i counter amount r else m)
after m (read i counter) = by_record m (record_at m.seats i) (λ r. if nat_lt counter (length m.counters) then after_read m i counter r else m)
after m (join i j) = by_record m (record_at m.seats i) (λ r. by_record m (record_at m.seats j) (λ other. if i == j then m else after_join m i r j other))

-- the state after these events, one after the other
abbrev pub run : Machine → List Event → Machine
run m [] = m
run m (event ∷ events) = run (after m event) events

-- the event can happen: its seat is not spent; a seat that is cut has more than one part, one that claims was never answered None, a counter is one of the round, and a seat is joined by another that is not spent
abbrev pub Fits : Machine → Event → Type 0
Fits m (split i) = (r : Record) × (record_at m.seats i ≡ Some r) × (1 < r.parts)
Fits m (claim i) = (r : Record) × (record_at m.seats i ≡ Some r) × (r.past ≡ 0)
Fits m (add i counter amount) = (r : Record) × (record_at m.seats i ≡ Some r) × (counter < length m.counters)
Fits m (read i counter) = (r : Record) × (record_at m.seats i ≡ Some r) × (counter < length m.counters)
Fits m (join i j) = (r : Record) × (other : Record) × (record_at m.seats i ≡ Some r) × (record_at m.seats j ≡ Some other) × (i ≢ j)

-- what an event that fits returns: a claim its piece, or None if there is none left; an add or a read the number that it finds
abbrev pub answer : Machine → Event → Option ℕ
answer m (claim i) = if nat_lt m.next m.pieces then Some m.next else None
answer m (add i counter amount) = Some (slice_index m.counters counter)
answer m (read i counter) = Some (slice_index m.counters counter)
answer m (split i) = None
answer m (join i j) = None

-- what these events return, one after the other
abbrev pub answers : Machine → List Event → List (Option ℕ)
answers m [] = []
answers m (event ∷ events) = answer m event ∷ answers (after m event) events
