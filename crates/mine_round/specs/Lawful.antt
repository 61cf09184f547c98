-- When a state of the round machine is lawful.
use Rattle.std.specs.Prelude.{◌≡◌, ℕ, ◌+◌, ◌≤◌, ◌==◌, nat_lt, min, List, [], ◌∷◌, length, Some, if◌then◌else◌, count_by, slice_index}
use Rattle.mine_round.specs.declared.state.Record.{Record}
use Rattle.mine_round.specs.declared.state.SeatState.{SeatState}
use Rattle.mine_round.specs.declared.state.SeatState.TheVariants.{Spent, Holding}
use Rattle.mine_round.specs.Machine.{Machine, record_at}

-- a number of a seat's record, and 0 of a spent seat
abbrev pub number_of : (Record → ℕ) → SeatState → ℕ
number_of f Spent = 0
number_of f (Holding r) = f r

-- a number of each record, added up over the seats that are not spent
abbrev pub total : (Record → ℕ) → List SeatState → ℕ
total f [] = 0
total f (seat ∷ seats) = number_of f seat + total f seats

-- how often a number stands in a list
abbrev pub times : ℕ → List ℕ → ℕ
times x xs = count_by (λ y. y == x) xs

-- 1 for a number below the bound, and else 0
abbrev pub once_below : ℕ → ℕ → ℕ
once_below bound x = if nat_lt x bound then 1 else 0

-- it holds of the record of each seat that is not spent
abbrev pub EachRecord : List SeatState → (Record → Type 0) → Type 0
EachRecord seats P = (i : ℕ) (r : Record) → record_at seats i ≡ Some r → P r

-- it holds of the record of some seat that is not spent
abbrev pub SomeRecord : List SeatState → (Record → Type 0) → Type 0
SomeRecord seats P = (i : ℕ) × (r : Record) × (record_at seats i ≡ Some r) × P r

-- the state is lawful; a list reads 0 past its end, so the facts on counters hold of every number
pub record Lawful (m : Machine) : Type 0 where
  -- the claimed lists together hold the numbers below the piece word and the number of pieces, each once
  pub claimed : (piece : ℕ) → total (λ r. times piece r.claimed) m.seats ≡ once_below (min m.next m.pieces) piece
  -- the piece word is the number of claimed pieces and of seats that saw the end
  pub next : m.next ≡ total (λ r. length r.claimed) m.seats + total (λ r. r.past) m.seats
  -- each counter is the sum of what was added to it
  pub counters : (c : ℕ) → slice_index m.counters c ≡ total (λ r. slice_index r.added c) m.seats
  -- no seat has seen more in a counter than it has
  pub seen : (c : ℕ) → EachRecord m.seats (λ r. slice_index r.seen c ≤ slice_index m.counters c)
  -- some seat has seen what the counter has
  pub reached : (c : ℕ) → SomeRecord m.seats (λ r. slice_index r.seen c ≡ slice_index m.counters c)
  -- the parts add up to the number of seats
  pub parts : total (λ r. r.parts) m.seats ≡ m.parts
  -- each seat that is not spent stands for one seat at least
  pub whole : EachRecord m.seats (λ r. 1 ≤ r.parts)
  -- each record has a number for each counter
  pub sizes : EachRecord m.seats (λ r. (length r.added ≡ length m.counters) × (length r.seen ≡ length m.counters))

-- the second state is one of the first one's round: as many pieces, seats in all and counters
abbrev pub IsOfRound : Machine → Machine → Type 0
IsOfRound m n = (n.pieces ≡ m.pieces) × (n.parts ≡ m.parts) × (length n.counters ≡ length m.counters)
