-- A seat made and a seat joined keep a state lawful.
use Rattle.std.proofs.Common.{◌≡◌, ◌≢◌, ℕ, cond, ◌+◌, ◌<◌, ◌≤◌, ◌⊎◌, inl, inr, List, [], ◌∷◌, ◌++◌, length, length-append, set, Some, refl, ap, sym, ◌∙◌, arith}
use Rattle.std.specs.Prelude.{slice_index, ◌==◌, replicate}
use Rattle.std.proofs.lemmas.Bool.{cases_eq}
use Rattle.std.proofs.lemmas.Bool.Decides.{nat_tests}
use Rattle.std.proofs.lemmas.List.{length-replicate}
use Rattle.std.proofs.lemmas.List.Sums.{sum_by-append}
use Rattle.mine_round.specs.declared.state.Record.{Record}
use Rattle.mine_round.specs.declared.state.SeatState.{SeatState}
use Rattle.mine_round.specs.declared.state.SeatState.TheVariants.{Spent, Holding}
use Rattle.mine_round.specs.Record.{unused, with_one_part_less, joined}
use Rattle.mine_round.specs.Machine.{Machine, opening, record_at, after_split, after_join}
use Rattle.mine_round.specs.Lawful.{total, times, SomeRecord, Lawful}
use Rattle.mine_round.proofs.Places.{index-replicate, index-place_sums, index-place_maxima, length-place_sums, length-place_maxima}
use Rattle.mine_round.proofs.Records.{each-one, each-cut, each-joined, record_at-set_same, record_at-set_other, record_at_longer, same_record, total-set, total-append}

pub lawful-opening : (pieces counters parts : ℕ) → 1 ≤ parts → Lawful (opening pieces counters parts)
lawful-opening pieces counters parts some_part =
    let q = unused parts counters in
    record {
      claimed = λ piece. grind (arith, nat_tests);
      next = refl;
      counters = λ c. let e = index-replicate counters c in omega arith;
      seen = λ c. each-one (λ r. slice_index r.seen c ≤ slice_index (replicate counters 0) c) q (omega arith);
      reached = λ c. (0, unused parts counters, refl, refl);
      parts = omega arith;
      whole = each-one (λ r. 1 ≤ r.parts) q some_part;
      sizes = each-one (λ r. (length r.added ≡ length (replicate counters 0)) × (length r.seen ≡ length (replicate counters 0))) q (refl, refl);
    }

module _ (m : Machine) (h : Lawful m) (i : ℕ) (r : Record) (at : record_at m.seats i ≡ Some r) where
  module _ (more : 1 < r.parts) where
    abbrev cut : Record
    cut = with_one_part_less r

    abbrev fresh : Record
    fresh = unused 1 (length m.counters)

    abbrev seats : List SeatState
    seats = set m.seats i (Holding cut)

    split_total : (f : Record → ℕ) → total f (seats ++ Holding fresh ∷ []) + f r ≡ total f m.seats + (f cut + f fresh)
    split_total f = let a = total-append f seats (Holding fresh) in let b = total-set f m.seats i (Holding cut) r at in omega arith

    split_reached : (c k : ℕ) (q : Record) → record_at m.seats k ≡ Some q → slice_index q.seen c ≡ slice_index m.counters c → (k ≡ i) ⊎ (k ≢ i)
        → SomeRecord (seats ++ Holding fresh ∷ []) (λ q. slice_index q.seen c ≡ slice_index m.counters c)
    split_reached c k q there is (inl here) =
        let e : Some q ≡ Some r = sym there ∙ ap (record_at m.seats) here ∙ at in
        let s : slice_index q.seen c ≡ slice_index r.seen c = ap (λ (x : Record). slice_index x.seen c) (same_record q r e) in
        (i, cut, record_at_longer seats (Holding fresh ∷ []) i cut (record_at-set_same m.seats i (Holding cut) r at), sym s ∙ is)
    split_reached c k q there is (inr other) =
        (k, q, record_at_longer seats (Holding fresh ∷ []) k q (record_at-set_other m.seats i k (Holding cut) other ∙ there), is)

    pub lawful-after_split : Lawful (after_split m i r)
    lawful-after_split = record {
      claimed = λ piece. let was = h.claimed piece in let sum = split_total (λ q. times piece q.claimed) in omega arith;
      next = let was = h.next in let c = split_total (λ q. length q.claimed) in let p = split_total (λ q. q.past) in omega arith;
      counters = λ c. let was = h.counters c in let none = index-replicate (length m.counters) c in let sum = split_total (λ q. slice_index q.added c) in omega arith;
      seen = λ c. each-cut (λ q. slice_index q.seen c ≤ slice_index m.counters c) m.seats i cut fresh (h.seen c) (h.seen c i r at) (let none = index-replicate (length m.counters) c in omega arith);
      reached = λ c. let was = h.reached c in split_reached c was.0 was.1 was.2 was.3 (cases_eq was.0 i);
      parts = let was = h.parts in let sum = split_total (λ q. q.parts) in omega arith;
      whole = each-cut (λ q. 1 ≤ q.parts) m.seats i cut fresh h.whole (omega arith) (omega arith);
      sizes = each-cut (λ q. (length q.added ≡ length m.counters) × (length q.seen ≡ length m.counters)) m.seats i cut fresh h.sizes (h.sizes i r at)
          (length-replicate (length m.counters) 0, length-replicate (length m.counters) 0);
    }

  module _ (j : ℕ) (other : Record) (there : record_at m.seats j ≡ Some other) (apart : i ≢ j) where
    abbrev both : Record
    both = joined r other

    abbrev kept : List SeatState
    kept = set m.seats i (Holding both)

    abbrev left : List SeatState
    left = set kept j Spent

    there_still : record_at kept j ≡ Some other
    there_still = record_at-set_other m.seats i j (Holding both) (λ e. apart (sym e)) ∙ there

    join_total : (f : Record → ℕ) → f both ≡ f r + f other → total f left ≡ total f m.seats
    join_total f is = let a = total-set f kept j Spent other there_still in let b = total-set f m.seats i (Holding both) r at in omega arith

    both_there : record_at left i ≡ Some both
    both_there = record_at-set_other kept j i Spent apart ∙ record_at-set_same m.seats i (Holding both) r at

    join_reached : (c k : ℕ) (q : Record) → record_at m.seats k ≡ Some q → slice_index q.seen c ≡ slice_index m.counters c → (k ≡ i) ⊎ (k ≢ i) → (k ≡ j) ⊎ (k ≢ j)
        → SomeRecord left (λ q. slice_index q.seen c ≡ slice_index m.counters c)
    join_reached c k q at_k is (inl here) at_j =
        let e : Some q ≡ Some r = sym at_k ∙ ap (record_at m.seats) here ∙ at in
        let s : slice_index q.seen c ≡ slice_index r.seen c = ap (λ (x : Record). slice_index x.seen c) (same_record q r e) in
        let le = h.seen c j other there in
        (i, both, both_there, index-place_maxima r.seen other.seen c ∙ omega arith)
    join_reached c k q at_k is (inr not_i) (inl here) =
        let e : Some q ≡ Some other = sym at_k ∙ ap (record_at m.seats) here ∙ there in
        let s : slice_index q.seen c ≡ slice_index other.seen c = ap (λ (x : Record). slice_index x.seen c) (same_record q other e) in
        let le = h.seen c i r at in
        (i, both, both_there, index-place_maxima r.seen other.seen c ∙ omega arith)
    join_reached c k q at_k is (inr not_i) (inr not_j) =
        (k, q, record_at-set_other kept j k Spent not_j ∙ record_at-set_other m.seats i k (Holding both) not_i ∙ at_k, is)

    pub lawful-after_join : Lawful (after_join m i r j other)
    lawful-after_join = record {
      claimed = λ piece. join_total (λ q. times piece q.claimed) (sum_by-append (λ y. cond (y == piece) 1 0) r.claimed other.claimed) ∙ h.claimed piece;
      next = let was = h.next in let c = join_total (λ q. length q.claimed) (length-append r.claimed other.claimed) in let p = join_total (λ q. q.past) refl in omega arith;
      counters = λ c. h.counters c ∙ sym (join_total (λ q. slice_index q.added c) (index-place_sums r.added other.added c));
      seen = λ c. each-joined (λ q. slice_index q.seen c ≤ slice_index m.counters c) m.seats i both j (h.seen c)
          (let most = index-place_maxima r.seen other.seen c in let a = h.seen c i r at in let b = h.seen c j other there in omega arith);
      reached = λ c. let was = h.reached c in join_reached c was.0 was.1 was.2 was.3 (cases_eq was.0 i) (cases_eq was.0 j);
      parts = join_total (λ q. q.parts) refl ∙ h.parts;
      whole = each-joined (λ q. 1 ≤ q.parts) m.seats i both j h.whole (let a = h.whole i r at in omega arith);
      sizes = each-joined (λ q. (length q.added ≡ length m.counters) × (length q.seen ≡ length m.counters)) m.seats i both j h.sizes (let a = h.sizes i r at in let b = h.sizes j other there in
          (length-place_sums r.added other.added (length m.counters) a.0 b.0, length-place_maxima r.seen other.seen (length m.counters) a.1 b.1));
    }
