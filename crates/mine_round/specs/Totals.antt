-- What the seats of a round did together, and what its close tells.
use Rattle.std.specs.Prelude.{◌≡◌, ℕ, ◌+◌, ◌<◌, max, min, List, [], ◌∷◌, length, flat_map, sum_by, slice_index}
use Rattle.mine_round.specs.declared.state.Record.{Record}
use Rattle.mine_round.specs.declared.words.Terms.{Terms}
use Rattle.mine_round.specs.Lawful.{times, once_below}
use Rattle.mine_round.specs.SeatView.{SeatView}

-- the list holds the numbers below the bound, each once, and no other
abbrev pub HoldsNumbersBelow : ℕ → List ℕ → Type 0
HoldsNumbersBelow bound xs = (x : ℕ) → times x xs ≡ once_below bound x

-- the greatest of a number of each element, and 0 where there is none
abbrev pub greatest_by : {X : Type 0} → (X → ℕ) → List X → ℕ
greatest_by f [] = 0
greatest_by f (x ∷ xs) = max (f x) (greatest_by f xs)

-- the pieces that these seats claimed
abbrev pub claimed_by : List SeatView → List ℕ
claimed_by seats = flat_map (λ s. s.held.claimed) seats

-- what these seats added to a counter
abbrev pub added_by : List SeatView → ℕ → ℕ
added_by seats c = sum_by (λ s. slice_index s.held.added c) seats

-- the greatest number that one of these seats had seen in a counter
abbrev pub seen_by : List SeatView → ℕ → ℕ
seen_by seats c = greatest_by (λ s. slice_index s.held.seen c) seats

-- the record has what all these seats did, except the rest
pub record Gathers (r : Record) (rest all : List SeatView) : Type 0 where
  pub parts : r.parts + length rest ≡ length all
  pub claimed : (x : ℕ) → times x r.claimed + times x (claimed_by rest) ≡ times x (claimed_by all)
  pub past : r.past + sum_by (λ s. s.held.past) rest ≡ sum_by (λ s. s.held.past) all
  pub added : (c : ℕ) → slice_index r.added c + added_by rest c ≡ added_by all c
  pub seen : (c : ℕ) → max (slice_index r.seen c) (seen_by rest c) ≡ seen_by all c

-- what the piece word and the counters are at the end, where a record has what all seats did
pub record Settles (terms : Terms) (r : Record) (number : ℕ) (totals : List ℕ) : Type 0 where
  pub claimed : HoldsNumbersBelow (min number terms.pieces) r.claimed
  pub next : number ≡ length r.claimed + r.past
  pub added : (c : ℕ) → c < length totals → slice_index totals c ≡ slice_index r.added c
  pub seen : (c : ℕ) → c < length totals → slice_index totals c ≡ slice_index r.seen c
