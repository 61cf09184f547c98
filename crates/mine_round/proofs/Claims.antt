-- A claim, an add and a read keep a state lawful.
use Rattle.std.proofs.Common.{◌≡◌, ◌≢◌, ℕ, ◌+◌, ◌<◌, ◌≤◌, ◌⊎◌, inl, inr, ⊎_elim, Bool, true, false, cond, min, nat_lt, List, [], ◌∷◌, ◌++◌, length, length-append, length-set, set, get_or-set_same, get_or-set_other, Some, refl, sym, ◌∙◌, subst, arith}
use Rattle.std.proofs.lemmas.Grind.{common_steps}
use Rattle.std.specs.Prelude.{slice_index, ◌==◌}
use Rattle.std.proofs.lemmas.Bool.{cases_eq}
use Rattle.std.proofs.lemmas.Bool.Decides.{nat_tests}
use Rattle.std.proofs.lemmas.List.Sums.{sum_by_push}
use Rattle.mine_round.specs.declared.state.Record.{Record}
use Rattle.mine_round.specs.Record.{with_piece, with_end_seen, with_claim, with_add, with_read}
use Rattle.mine_round.specs.Machine.{Machine, record_at, after_claim, after_add, after_read}
use Rattle.mine_round.specs.Lawful.{times, once_below, Lawful}
use Rattle.mine_round.proofs.Steps.{Change, lawful_changed}

once_below_next : (n x : ℕ) → cond (n == x) 1 0 + once_below n x ≡ once_below (n + 1) x
once_below_next n x = grind (arith, nat_tests)

pub times-push : (x : ℕ) (xs : List ℕ) (y : ℕ) → times x (xs ++ y ∷ []) ≡ times x xs + cond (y == x) 1 0
times-push x xs y = sum_by_push (λ z. cond (z == x) 1 0) xs y

module _ (m : Machine) (h : Lawful m) (i : ℕ) (r : Record) (at : record_at m.seats i ≡ Some r) where
  claim_changes : (b : Bool) → nat_lt m.next m.pieces ≡ b → r.past ≡ 0 → Change m r (cond b (with_piece r m.next) (with_end_seen r)) (m.next + 1) m.counters
  claim_changes true is none_past =
      let below : m.next < m.pieces = grind (arith, nat_tests) in
      let before : min m.next m.pieces ≡ m.next = omega arith in
      let now : min (m.next + 1) m.pieces ≡ m.next + 1 = omega arith in
      record {
        claimed = λ x. rw (before, now) (let one = times-push x r.claimed m.next in let next = once_below_next m.next x in omega arith);
        next_is = omega (arith, length-append r.claimed (m.next ∷ []));
        added = λ c. refl;
        grows = λ c. omega arith;
        seen = λ c. h.seen c i r at;
        reached = λ c. inr (refl, refl);
        parts = refl;
        size = refl;
        sizes = h.sizes i r at;
      }
  claim_changes false is none_past =
      let above : m.pieces ≤ m.next = grind (arith, nat_tests) in
      let before : min m.next m.pieces ≡ m.pieces = omega arith in
      let now : min (m.next + 1) m.pieces ≡ m.pieces = omega arith in
      record {
        claimed = λ x. rw (before, now) refl;
        next_is = omega arith;
        added = λ c. refl;
        grows = λ c. omega arith;
        seen = λ c. h.seen c i r at;
        reached = λ c. inr (refl, refl);
        parts = refl;
        size = refl;
        sizes = h.sizes i r at;
      }

  pub lawful-after_claim : r.past ≡ 0 → Lawful (after_claim m i r)
  lawful-after_claim none_past = lawful_changed m h i r (with_claim r m.pieces m.next) at (m.next + 1) m.counters (claim_changes (nat_lt m.next m.pieces) refl none_past)

  module _ (counter : ℕ) (inside : counter < length m.counters) where
    same_index : (xs : List ℕ) (v : ℕ) → length xs ≡ length m.counters → slice_index (set xs counter v) counter ≡ v
    same_index xs v e = get_or-set_same xs counter v 0 (omega arith)

    other_index : (xs : List ℕ) (v c : ℕ) → c ≢ counter → slice_index (set xs counter v) c ≡ slice_index xs c
    other_index xs v c n = get_or-set_other xs counter c v 0 n

    read_seen : (c : ℕ) → (c ≡ counter) ⊎ (c ≢ counter) → slice_index (set r.seen counter (slice_index m.counters counter)) c ≤ slice_index m.counters c
    read_seen h1 h2 = grind (arith, common_steps)

    read_reached : (c : ℕ) → (c ≡ counter) ⊎ (c ≢ counter) → (slice_index (set r.seen counter (slice_index m.counters counter)) c ≡ slice_index m.counters c)
        ⊎ ((slice_index m.counters c ≡ slice_index m.counters c) × (slice_index (set r.seen counter (slice_index m.counters counter)) c ≡ slice_index r.seen c))
    read_reached h1 h2 = grind (arith, common_steps)

    pub lawful-after_read : Lawful (after_read m i counter r)
    lawful-after_read = lawful_changed m h i r (with_read r counter (slice_index m.counters counter)) at m.next m.counters record {
      claimed = λ x. refl;
      next_is = refl;
      added = λ c. refl;
      grows = λ c. omega arith;
      seen = λ c. read_seen c (cases_eq c counter);
      reached = λ c. read_reached c (cases_eq c counter);
      parts = refl;
      size = refl;
      sizes = ((h.sizes i r at).0, length-set r.seen counter (slice_index m.counters counter) ∙ (h.sizes i r at).1);
    }

    module _ (amount : ℕ) where
      abbrev found : ℕ
      found = slice_index m.counters counter

      abbrev counters : List ℕ
      counters = set m.counters counter (found + amount)

      abbrev r' : Record
      r' = with_add r counter found amount

      -- what an add makes of the counter, and of what the seat added and saw there
      record There (c : ℕ) : Type 0 where
        counted : slice_index counters c ≡ slice_index m.counters c + amount
        added : slice_index r'.added c ≡ slice_index r.added c + amount
        seen : slice_index r'.seen c ≡ slice_index m.counters c + amount

      record Elsewhere (c : ℕ) : Type 0 where
        counted : slice_index counters c ≡ slice_index m.counters c
        added : slice_index r'.added c ≡ slice_index r.added c
        seen : slice_index r'.seen c ≡ slice_index r.seen c

      add_at : (c : ℕ) → There c ⊎ Elsewhere c
      add_at c = ⊎_elim
          (λ (e : c ≡ counter). inl (subst There (sym e) record {
            counted = same_index m.counters (found + amount) refl;
            added = same_index r.added (slice_index r.added counter + amount) (h.sizes i r at).0;
            seen = same_index r.seen (found + amount) (h.sizes i r at).1;
          }))
          (λ (n : c ≢ counter). inr record {
            counted = other_index m.counters (found + amount) c n;
            added = other_index r.added (slice_index r.added counter + amount) c n;
            seen = other_index r.seen (found + amount) c n;
          })
          (cases_eq c counter)

      add_added : (c : ℕ) → There c ⊎ Elsewhere c → slice_index counters c + slice_index r.added c ≡ slice_index m.counters c + slice_index r'.added c
      add_added h1 h2 = grind (arith, common_steps)

      add_grows : (c : ℕ) → There c ⊎ Elsewhere c → slice_index m.counters c ≤ slice_index counters c
      add_grows h1 h2 = grind (arith, common_steps)

      add_seen : (c : ℕ) → There c ⊎ Elsewhere c → slice_index r'.seen c ≤ slice_index counters c
      add_seen h1 h2 = grind (arith, common_steps)

      add_reached : (c : ℕ) → There c ⊎ Elsewhere c
          → (slice_index r'.seen c ≡ slice_index counters c) ⊎ ((slice_index counters c ≡ slice_index m.counters c) × (slice_index r'.seen c ≡ slice_index r.seen c))
      add_reached h1 h2 = grind (arith, common_steps)

      pub lawful-after_add : Lawful (after_add m i counter amount r)
      lawful-after_add = lawful_changed m h i r r' at m.next counters record {
        claimed = λ x. refl;
        next_is = refl;
        added = λ c. add_added c (add_at c);
        grows = λ c. add_grows c (add_at c);
        seen = λ c. add_seen c (add_at c);
        reached = λ c. add_reached c (add_at c);
        parts = refl;
        size = length-set m.counters counter (found + amount);
        sizes = (length-set r.added counter (slice_index r.added counter + amount) ∙ (h.sizes i r at).0, length-set r.seen counter (found + amount) ∙ (h.sizes i r at).1);
      }
