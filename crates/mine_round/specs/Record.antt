-- What one seat has done in its round, and what each event makes of it.
use Rattle.std.specs.Prelude.{ℕ, ◌+◌, ◌-◌, List, [], ◌∷◌, ◌++◌, max, nat_lt, if◌then◌else◌, replicate, slice_index, slice_set}
use Rattle.mine_round.specs.declared.state.Record.{Record}

-- the record of a seat that stands for this many seats and has done nothing, in a round of this many counters
abbrev pub unused : ℕ → ℕ → Record
unused parts counters = record { parts = parts; claimed = []; past = 0; added = replicate counters 0; seen = replicate counters 0 }

-- the record of a seat from which one seat was cut
abbrev pub with_one_part_less : Record → Record
with_one_part_less r = record r { parts = r.parts - 1 }

-- the record after a claim that was answered this piece
abbrev pub with_piece : Record → ℕ → Record
with_piece r piece = record r { claimed = r.claimed ++ piece ∷ [] }

-- the record after a claim that was answered None
abbrev pub with_end_seen : Record → Record
with_end_seen r = record r { past = 1 }

-- the record after a claim that found this number in the piece word of a round of this many pieces
abbrev pub with_claim : Record → ℕ → ℕ → Record
with_claim r pieces found = if nat_lt found pieces then with_piece r found else with_end_seen r

-- the record after this amount was added to a counter that was found at this number
abbrev pub with_add : Record → ℕ → ℕ → ℕ → Record
with_add r counter found amount = record r {
  added = slice_set r.added counter (slice_index r.added counter + amount);
  seen = slice_set r.seen counter (found + amount);
}

-- the record after a counter was read and found at this number
abbrev pub with_read : Record → ℕ → ℕ → Record
with_read r counter found = record r { seen = slice_set r.seen counter found }

-- the numbers of two lists added place by place, where a list reads 0 past its end
abbrev pub place_sums : List ℕ → List ℕ → List ℕ
place_sums [] ys = ys
place_sums (x ∷ xs) [] = x ∷ xs
place_sums (x ∷ xs) (y ∷ ys) = (x + y) ∷ place_sums xs ys

-- the greater of the numbers of two lists place by place
abbrev pub place_maxima : List ℕ → List ℕ → List ℕ
place_maxima [] ys = ys
place_maxima (x ∷ xs) [] = x ∷ xs
place_maxima (x ∷ xs) (y ∷ ys) = max x y ∷ place_maxima xs ys

-- the record of a seat that another seat joined
abbrev pub joined : Record → Record → Record
joined r other = record {
  parts = r.parts + other.parts;
  claimed = r.claimed ++ other.claimed;
  past = r.past + other.past;
  added = place_sums r.added other.added;
  seen = place_maxima r.seen other.seen;
}
