-- The rule of a round's words and seats, and what each step tells.
use Rattle.std.specs.Prelude.{◌≡◌, ℕ, ◌-◌, ◌*◌, ◌^◌, ◌≤◌, List, [], ◌∷◌, length, slice_index, ◌<◌, All}
use Rattle.atomic_table.specs.Table.{Me, Step}
use Rattle.atomic_table.specs.declared.shared.Seat.{Seat}
use Rattle.mine_round.specs.declared.state.Record.{Record}
use Rattle.mine_round.specs.declared.state.SeatState.{SeatState}
use Rattle.mine_round.specs.declared.state.SeatState.TheVariants.{Spent, Holding}
use Rattle.mine_round.specs.declared.words.Terms.{Terms}
use Rattle.mine_round.specs.Record.{unused, with_claim, with_add, with_read}
use Rattle.mine_round.specs.Machine.{Machine}
use Rattle.mine_round.specs.Lawful.{EachRecord, Lawful}

-- the state that the words and the seats of a round show
abbrev pub state_of : Terms → ℕ → List ℕ → List SeatState → Machine
state_of terms next counters seats = record { pieces = terms.pieces; parts = terms.seats; next = next; counters = counters; seats = seats }

-- the rule: the state is lawful, and what each seat did is bounded by its parts, so that no word wraps
pub record Keeps (terms : Terms) (words : List ℕ) (seats : List SeatState) : Type 0 where
  -- the piece word, and then the counters
  pub next : ℕ
  pub counters : List ℕ
  pub words_are : words ≡ next ∷ counters
  pub counters_are : length counters ≡ terms.counters
  pub lawful : Lawful (state_of terms next counters seats)
  pub few_pieces : terms.pieces ≤ 65536
  pub few_seats : terms.seats ≤ 64
  -- a seat was answered None once for each of its parts at most
  pub past : EachRecord seats (λ r. r.past ≤ r.parts)
  -- and has added to a counter 2 ^ 40 for each of them at most
  pub added : (c : ℕ) → EachRecord seats (λ r. slice_index r.added c ≤ 2 ^ 40 * r.parts)

-- the record of a seat, and an empty one where it is spent
abbrev pub record_in : SeatState → Record
record_in Spent = unused 0 0
record_in (Holding r) = r

-- the seat is not spent, and no slot is out with it
abbrev pub HoldsRecord : Seat (Unit {0}) SeatState → Type 0
HoldsRecord s = s.me ≡ (Holding (record_in s.me.0), [])

-- the seat had added no more to a counter, and seen no more in it, than this number
abbrev pub KnowsNoMore : Record → ℕ → ℕ → Type 0
KnowsNoMore r counter found = (slice_index r.added counter ≤ found) × (slice_index r.seen counter ≤ found)

-- each piece that was claimed is below this number
abbrev pub ClaimedBelow : Record → ℕ → Type 0
ClaimedBelow r number = All (λ piece. piece < number) r.claimed

-- what a claim tells, in a round of this many pieces
abbrev pub TellsClaim : ℕ → Step (Unit {0}) → Me (Unit {0}) SeatState → ℕ → Me (Unit {0}) SeatState → Type 0
TellsClaim pieces st before found now = (now ≡ (Holding (with_claim (record_in before.0) pieces found), before.1)) × ClaimedBelow (record_in before.0) found

-- what an add tells: the counter's word is the one after its number
abbrev pub TellsAdd : Step (Unit {0}) → Me (Unit {0}) SeatState → ℕ → Me (Unit {0}) SeatState → Type 0
TellsAdd st before found now = (now ≡ (Holding (with_add (record_in before.0) (st.word - 1) found st.first), before.1)) × KnowsNoMore (record_in before.0) (st.word - 1) found

-- what a read tells
abbrev pub TellsRead : Step (Unit {0}) → Me (Unit {0}) SeatState → ℕ → Me (Unit {0}) SeatState → Type 0
TellsRead st before found now = (now ≡ (Holding (with_read (record_in before.0) (st.word - 1) found), before.1)) × KnowsNoMore (record_in before.0) (st.word - 1) found
