-- A change of one seat's record keeps a state lawful, and so does each event but a split and a join.
use Rattle.std.proofs.Common.{◌≡◌, ◌≢◌, ℕ, ◌+◌, ◌≤◌, ◌⊎◌, inl, inr, min, List, length, set, Some, ap, sym, ◌∙◌, arith}
use Rattle.std.specs.Prelude.{slice_index}
use Rattle.std.proofs.lemmas.Bool.{cases_eq}
use Rattle.mine_round.specs.declared.state.Record.{Record}
use Rattle.mine_round.specs.declared.state.SeatState.TheVariants.{Holding}
use Rattle.mine_round.specs.Machine.{Machine, record_at}
use Rattle.mine_round.specs.Lawful.{times, once_below, SomeRecord, Lawful}
use Rattle.mine_round.proofs.Records.{each-written, record_at-set_same, record_at-set_other, same_record, total-set}

-- what one seat's record becomes, with the piece word and the counters after it
pub record Change (m : Machine) (r r' : Record) (next : ℕ) (counters : List ℕ) : Type 0 where
  pub claimed : (piece : ℕ) → times piece r'.claimed + once_below (min m.next m.pieces) piece ≡ times piece r.claimed + once_below (min next m.pieces) piece
  pub next_is : next + (length r.claimed + r.past) ≡ m.next + (length r'.claimed + r'.past)
  pub added : (c : ℕ) → slice_index counters c + slice_index r.added c ≡ slice_index m.counters c + slice_index r'.added c
  pub grows : (c : ℕ) → slice_index m.counters c ≤ slice_index counters c
  pub seen : (c : ℕ) → slice_index r'.seen c ≤ slice_index counters c
  pub reached : (c : ℕ) → (slice_index r'.seen c ≡ slice_index counters c) ⊎ ((slice_index counters c ≡ slice_index m.counters c) × (slice_index r'.seen c ≡ slice_index r.seen c))
  pub parts : r'.parts ≡ r.parts
  pub size : length counters ≡ length m.counters
  pub sizes : (length r'.added ≡ length m.counters) × (length r'.seen ≡ length m.counters)

module _ (m : Machine) (h : Lawful m) (i : ℕ) (r r' : Record) (at : record_at m.seats i ≡ Some r) where
  module _ (next : ℕ) (counters : List ℕ) (d : Change m r r' next counters) where
    reached_by : (c k : ℕ) (q : Record) → record_at m.seats k ≡ Some q → slice_index q.seen c ≡ slice_index m.counters c
        → (slice_index counters c ≡ slice_index m.counters c) → (slice_index r'.seen c ≡ slice_index r.seen c) → (k ≡ i) ⊎ (k ≢ i)
        → SomeRecord (set m.seats i (Holding r')) (λ q. slice_index q.seen c ≡ slice_index counters c)
    reached_by c k q there is same kept (inl here) =
        let e : Some q ≡ Some r = sym there ∙ ap (record_at m.seats) here ∙ at in
        let s : slice_index q.seen c ≡ slice_index r.seen c = ap (λ (x : Record). slice_index x.seen c) (same_record q r e) in
        (i, r', record_at-set_same m.seats i (Holding r') r at, omega arith)
    reached_by c k q there is same kept (inr other) = (k, q, record_at-set_other m.seats i k (Holding r') other ∙ there, is ∙ sym same)

    reached_after : (c : ℕ) → (slice_index r'.seen c ≡ slice_index counters c) ⊎ ((slice_index counters c ≡ slice_index m.counters c) × (slice_index r'.seen c ≡ slice_index r.seen c))
        → SomeRecord (set m.seats i (Holding r')) (λ q. slice_index q.seen c ≡ slice_index counters c)
    reached_after c (inl e) = (i, r', record_at-set_same m.seats i (Holding r') r at, e)
    reached_after c (inr e) = let was = h.reached c in reached_by c was.0 was.1 was.2 was.3 e.0 e.1 (cases_eq was.0 i)

    pub lawful_changed : Lawful record { pieces = m.pieces; parts = m.parts; next = next; counters = counters; seats = set m.seats i (Holding r') }
    lawful_changed =
        let added_up = λ (f : Record → ℕ). total-set f m.seats i (Holding r') r at in
        record {
          claimed = λ piece. let was = h.claimed piece in let is = d.claimed piece in let sum = added_up (λ q. times piece q.claimed) in omega arith;
          next = let was = h.next in let is = d.next_is in let c = added_up (λ q. length q.claimed) in let p = added_up (λ q. q.past) in omega arith;
          counters = λ c. let was = h.counters c in let is = d.added c in let sum = added_up (λ q. slice_index q.added c) in omega arith;
          seen = λ c. each-written (λ q. slice_index q.seen c ≤ slice_index counters c) m.seats i r'
              (λ j q e. let le = h.seen c j q e in let grows = d.grows c in omega arith) (d.seen c);
          reached = λ c. reached_after c (d.reached c);
          parts = let was = h.parts in let is = d.parts in let sum = added_up (λ q. q.parts) in omega arith;
          whole = each-written (λ q. 1 ≤ q.parts) m.seats i r' h.whole (let le = h.whole i r at in let is = d.parts in omega arith);
          sizes = each-written (λ q. (length q.added ≡ length counters) × (length q.seen ≡ length counters)) m.seats i r'
              (λ j q e. let s = h.sizes j q e in (s.0 ∙ sym d.size, s.1 ∙ sym d.size)) (d.sizes.0 ∙ sym d.size, d.sizes.1 ∙ sym d.size);
        }
