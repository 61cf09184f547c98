-- Each event keeps a state lawful, and so does each list of events; a lawful state is known by its seats.
use Rattle.std.proofs.Common.{◌≡◌, ℕ, ◌+◌, ◌≤◌, Bool, true, false, cond, nat_lt, List, [], ◌∷◌, length, Option, Some, sym, ap, ◌∙◌, arith}
use Rattle.std.proofs.lemmas.Grind.{common_steps}
use Rattle.std.specs.Prelude.{◌==◌, slice_index}
use Rattle.std.proofs.lemmas.List.{ext_get_or}
use Rattle.std.proofs.lemmas.Bool.Decides.{nat_tests}
use Rattle.mine_round.specs.declared.state.Record.{Record}
use Rattle.mine_round.specs.Machine.{Machine, Event, split, claim, add, read, join, opening, record_at, after_split, after_claim, after_add, after_read, after_join, by_record, after, run}
use Rattle.mine_round.specs.Lawful.{IsOfRound, Lawful, total}
use Rattle.mine_round.proofs.Claims.{lawful-after_claim, lawful-after_add, lawful-after_read}
use Rattle.mine_round.proofs.Seats.{lawful-opening, lawful-after_split, lawful-after_join}

module _ (P : Machine → Type 0) where
  -- a step that is taken only under a test
  when_tested : (b : Bool) (m step : Machine) → P m → (b ≡ true → P step) → P (cond b step m)
  when_tested h1 h2 h3 h4 h5 = grind (arith, common_steps)

  -- a step that is taken only where a test fails
  unless_tested : (b : Bool) (m step : Machine) → P m → (b ≡ false → P step) → P (cond b m step)
  unless_tested h1 h2 h3 h4 h5 = grind (arith, common_steps)

  -- a step of a seat that may have no record
  when_held : (m : Machine) (o : Option Record) (f : Record → Machine) → P m → ((r : Record) → o ≡ Some r → P (f r)) → P (by_record m o f)
  when_held h1 h2 h3 h4 h5 = grind (arith, common_steps)

lawful-after : (m : Machine) (event : Event) → Lawful m → Lawful (after m event)
lawful-after m (split i) h = when_held Lawful m (record_at m.seats i) _ h (λ r at.
    when_tested Lawful (nat_lt 1 r.parts) m (after_split m i r) h (λ is. lawful-after_split m h i r at (grind (arith, nat_tests))))
lawful-after m (claim i) h = when_held Lawful m (record_at m.seats i) _ h (λ r at.
    when_tested Lawful (r.past == 0) m (after_claim m i r) h (λ is. lawful-after_claim m h i r at (grind (arith, nat_tests))))
lawful-after m (add i counter amount) h = when_held Lawful m (record_at m.seats i) _ h (λ r at.
    when_tested Lawful (nat_lt counter (length m.counters)) m (after_add m i counter amount r) h (λ is. lawful-after_add m h i r at counter (grind (arith, nat_tests)) amount))
lawful-after m (read i counter) h = when_held Lawful m (record_at m.seats i) _ h (λ r at.
    when_tested Lawful (nat_lt counter (length m.counters)) m (after_read m i counter r) h (λ is. lawful-after_read m h i r at counter (grind (arith, nat_tests))))
lawful-after m (join i j) h = when_held Lawful m (record_at m.seats i) _ h (λ r at.
    when_held Lawful m (record_at m.seats j) _ h (λ other there.
    unless_tested Lawful (i == j) m (after_join m i r j other) h (λ is. lawful-after_join m h i r at j other there (grind (arith, nat_tests)))))

-- an event keeps what the round was made for
keeps-after : (m : Machine) (event : Event) → IsOfRound m (after m event)
keeps-after h1 h2 = grind (arith, common_steps)

-- the records of the seats tell the words
pub same_words : (m n : Machine) → Lawful m → Lawful n → IsOfRound m n → n.seats ≡ m.seats → n ≡ m
same_words m n lawful other terms seats =
    let next : n.next ≡ m.next = other.next ∙ ap (λ s. total (λ r. length r.claimed) s + total (λ r. r.past) s) seats ∙ sym lawful.next in
    let counters : n.counters ≡ m.counters = ext_get_or 0 n.counters m.counters terms.2 (λ c below.
    other.counters c ∙ ap (λ s. total (λ r. slice_index r.added c) s) seats ∙ sym (lawful.counters c)) in
    λ i. record { pieces = terms.0 i; parts = terms.1 i; next = next i; counters = counters i; seats = seats i }

pub same_after : (m n : Machine) (event : Event) → Lawful m → Lawful n → IsOfRound m n → n.seats ≡ (after m event).seats → n ≡ after m event
same_after m n event lawful other terms seats =
    let kept = keeps-after m event in
    same_words (after m event) n (lawful-after m event lawful) other (terms.0 ∙ sym kept.0, terms.1 ∙ sym kept.1, terms.2 ∙ sym kept.2) seats

lawful-run : (m : Machine) (events : List Event) → Lawful m → Lawful (run m events)
lawful-run m [] h = h
lawful-run m (event ∷ events) h = lawful-run (after m event) events (lawful-after m event h)

pub lawful-from_opening : (pieces counters seats : ℕ) (events : List Event) → 1 ≤ seats → Lawful (run (opening pieces counters seats) events)
lawful-from_opening pieces counters seats events some_seat = lawful-run (opening pieces counters seats) events (lawful-opening pieces counters seats some_seat)
