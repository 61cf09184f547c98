-- Each step on the words of a round keeps the rule.
use Rattle.std.proofs.Common.{◌≡◌, ◌≢◌, ℕ, zero, suc, ◌+◌, ◌-◌, ◌*◌, ◌%◌, ◌^◌, ◌<◌, ◌≤◌, ◌⊎◌, Bool, cond, min, replicate, nat_lt, List, [], ◌∷◌, ◌++◌, length, length-set, set, get_or, Some, refl, ap, sym, ◌∙◌, subst, add-one, arith}
use Rattle.std.proofs.lemmas.Grind.{common_steps}
use Rattle.std.specs.Prelude.{slice_index, ◌==◌}
use Rattle.std.proofs.lemmas.Bool.{cases_eq}
use Rattle.std.proofs.lemmas.Bool.Decides.{nat_tests}
use Rattle.std.proofs.lemmas.List.{length-replicate}
use Rattle.std.proofs.lemmas.List.Sums.{get_or-le-sum_by}
use mathlib.Core.Option as maybe
use lib.ListN.{get_elem?}
use Rattle.atomic_table.specs.Table.{State, Me, step, keeps, Allows, Splits, Joins}
use Rattle.mine_round.specs.declared.state.Record.{Record}
use Rattle.mine_round.specs.declared.state.SeatState.{SeatState}
use Rattle.mine_round.specs.declared.state.SeatState.TheVariants.{Spent, Holding}
use Rattle.mine_round.specs.declared.words.Terms.{Terms}
use Rattle.mine_round.specs.Record.{unused, with_one_part_less, with_piece, with_end_seen, with_claim, with_add, with_read, joined}
use Rattle.mine_round.specs.Machine.{record_at}
use Rattle.mine_round.specs.Lawful.{total, times, once_below, EachRecord, Lawful}
use Rattle.mine_round.specs.Words.{state_of, Keeps, record_in, KnowsNoMore, ClaimedBelow, TellsClaim, TellsAdd, TellsRead}
use Rattle.mine_round.proofs.Records.{each-written, each-cut, each-joined, each-one, record_at-set_other, record_at_shown, number-le-total}
use Rattle.mine_round.proofs.Places.{index-replicate, index-place_sums}
use Rattle.mine_round.proofs.Counting.{total_claimed}
use Rattle.mine_round.proofs.Claims.{lawful-after_claim, lawful-after_add, lawful-after_read}
use Rattle.mine_round.proofs.Seats.{lawful-opening, lawful-after_split, lawful-after_join}

-- a number that is bounded by the parts, added up
total_by_parts : (f : Record → ℕ) (seats : List SeatState) → EachRecord seats (λ r. f r ≤ 2 ^ 40 * r.parts) → total f seats ≤ 2 ^ 40 * total (λ r. r.parts) seats
total_by_parts f [] h = omega arith
total_by_parts f (Spent ∷ seats) h = let rest = total_by_parts f seats (λ i r e. h (suc i) r e) in omega arith
total_by_parts f (Holding r ∷ seats) h = let rest = total_by_parts f seats (λ i q e. h (suc i) q e) in let here = h 0 r refl in omega arith

total_within_parts : (f : Record → ℕ) (seats : List SeatState) → EachRecord seats (λ r. f r ≤ r.parts) → total f seats ≤ total (λ r. r.parts) seats
total_within_parts f [] h = omega arith
total_within_parts f (Spent ∷ seats) h = let rest = total_within_parts f seats (λ i r e. h (suc i) r e) in omega arith
total_within_parts f (Holding r ∷ seats) h = let rest = total_within_parts f seats (λ i q e. h (suc i) q e) in let here = h 0 r refl in omega arith

-- writing what stands at a place changes nothing
set_as_it_is : (xs : List ℕ) (i : ℕ) → set xs i (slice_index xs i) ≡ xs
set_as_it_is [] i = refl
set_as_it_is (x ∷ xs) zero = refl
set_as_it_is (x ∷ xs) (suc i) = ap (λ ys. x ∷ ys) (set_as_it_is xs i)

counts_itself : (x : ℕ) → 1 ≤ cond (x == x) 1 0
counts_itself x = grind (arith, nat_tests)

below_once_counted : (bound x : ℕ) → 1 ≤ once_below bound x → x < bound
below_once_counted bound x h = grind (arith, nat_tests)

module _ (terms : Terms) where
  abbrev Holds : State (Unit {0}) SeatState → Type 0
  Holds s = Keeps terms s.words s.views

  module _ (words : List ℕ) (seats : List SeatState) (k : Keeps terms words seats) where
    next_fits : k.next < 2 ^ 32
    next_fits =
        let some = total_claimed (min k.next terms.pieces) seats k.lawful.claimed in
        let past = total_within_parts (λ r. r.past) seats k.past in
        let all = k.lawful.next in let parts = k.lawful.parts in let few_pieces = k.few_pieces in let few_seats = k.few_seats in
        omega arith

    counter_fits : (c : ℕ) → slice_index k.counters c ≤ 2 ^ 46
    counter_fits c = grind (arith, common_steps, total_by_parts)

    pub found_is : slice_index words 0 ≡ k.next
    found_is = ap (λ ws. slice_index ws 0) k.words_are

    pub counter_is : (c : ℕ) → slice_index words (c + 1) ≡ slice_index k.counters c
    counter_is c = ap (λ ws. slice_index ws (c + 1)) k.words_are ∙ ap (slice_index (k.next ∷ k.counters)) (add-one c)

    counter_set : (c v : ℕ) → set words (c + 1) v ≡ k.next ∷ set k.counters c v
    counter_set c v = ap (λ ws. set ws (c + 1) v) k.words_are ∙ ap (λ n. set (k.next ∷ k.counters) n v) (add-one c)

    module _ (i : ℕ) (r : Record) (at : record_at seats i ≡ Some r) where
      claimed_below : ClaimedBelow r (slice_index words 0)
      claimed_below j d inside =
          let x : ℕ = get_or r.claimed j d in
          let here = get_or-le-sum_by (λ y. cond (y == x) 1 0) r.claimed j d inside in
          let one = counts_itself x in
          let mine = number-le-total (λ q. times x q.claimed) seats i r at in
          let all = k.lawful.claimed x in
          let below = below_once_counted (min k.next terms.pieces) x (omega arith) in
          let found = found_is in
          omega arith

      claim_past : (b : Bool) → r.past ≡ 0 → let now : Record = cond b (with_piece r k.next) (with_end_seen r) in now.past ≤ now.parts
      claim_past h1 h2 = grind (arith, common_steps)

      claim_added : (b : Bool) (c : ℕ) → let now : Record = cond b (with_piece r k.next) (with_end_seen r) in slice_index now.added c ≤ 2 ^ 40 * now.parts
      claim_added h1 h2 = grind (arith, common_steps)

      claimed_next : r.past ≡ 0 → Keeps terms (set words 0 ((slice_index words 0 + 1) % 2 ^ 64)) (set seats i (Holding (with_claim r terms.pieces k.next)))
      claimed_next none_past =
          let small = next_fits in
          let found = found_is in
          let number : (slice_index words 0 + 1) % 2 ^ 64 ≡ k.next + 1 = omega arith in
          record {
            next = k.next + 1;
            counters = k.counters;
            words_are = ap (λ ws. set ws 0 ((slice_index words 0 + 1) % 2 ^ 64)) k.words_are ∙ ap (λ n. n ∷ k.counters) number;
            counters_are = k.counters_are;
            lawful = lawful-after_claim (state_of terms k.next k.counters seats) k.lawful i r at none_past;
            few_pieces = k.few_pieces;
            few_seats = k.few_seats;
            past = each-written (λ q. q.past ≤ q.parts) seats i (with_claim r terms.pieces k.next) k.past (claim_past (nat_lt k.next terms.pieces) none_past);
            added = λ c. each-written (λ q. slice_index q.added c ≤ 2 ^ 40 * q.parts) seats i (with_claim r terms.pieces k.next) (k.added c) (claim_added (nat_lt k.next terms.pieces) c);
          }

      keeps_claim : r.past ≡ 0 → Keeps terms (set words 0 ((slice_index words 0 + 1) % 2 ^ 64)) (set seats i (Holding (with_claim r terms.pieces (slice_index words 0))))
      keeps_claim none_past = grind (arith, common_steps, found_is, claimed_next)

      module _ (c : ℕ) (inside : c < terms.counters) where
        inside_counters : c < length k.counters
        inside_counters = let e = k.counters_are in omega arith

        known : KnowsNoMore r c (slice_index words (c + 1))
        known = grind (arith, common_steps, counter_is, number-le-total)

        read_counters : Keeps terms (set words (c + 1) (slice_index words (c + 1))) (set seats i (Holding (with_read r c (slice_index k.counters c))))
        read_counters = record {
          next = k.next;
          counters = k.counters;
          words_are = set_as_it_is words (c + 1) ∙ k.words_are;
          counters_are = k.counters_are;
          lawful = lawful-after_read (state_of terms k.next k.counters seats) k.lawful i r at c inside_counters;
          few_pieces = k.few_pieces;
          few_seats = k.few_seats;
          past = each-written (λ q. q.past ≤ q.parts) seats i (with_read r c (slice_index k.counters c)) k.past (k.past i r at);
          added = λ d. each-written (λ q. slice_index q.added d ≤ 2 ^ 40 * q.parts) seats i (with_read r c (slice_index k.counters c)) (k.added d) (k.added d i r at);
        }

        keeps_read : Keeps terms (set words (c + 1) (slice_index words (c + 1))) (set seats i (Holding (with_read r c (slice_index words (c + 1)))))
        keeps_read =
            subst (λ n. Keeps terms (set words (c + 1) (slice_index words (c + 1))) (set seats i (Holding (with_read r c n)))) (sym (counter_is c)) read_counters

        module _ (amount : ℕ) (room : slice_index r.added c + amount ≤ 2 ^ 40) where
          abbrev now : Record
          now = with_add r c (slice_index k.counters c) amount

          add_within : (d : ℕ) → (d ≡ c) ⊎ (d ≢ c) → slice_index now.added d ≤ 2 ^ 40 * now.parts
          add_within h1 h2 = grind (arith, common_steps)

          add_counters : Keeps terms (set words (c + 1) ((slice_index words (c + 1) + amount) % 2 ^ 64)) (set seats i (Holding now))
          add_counters =
              let small = counter_fits c in
              let found = counter_is c in
              let number : (slice_index words (c + 1) + amount) % 2 ^ 64 ≡ slice_index k.counters c + amount = omega arith in
              record {
                next = k.next;
                counters = set k.counters c (slice_index k.counters c + amount);
                words_are = ap (set words (c + 1)) number ∙ counter_set c (slice_index k.counters c + amount);
                counters_are = length-set k.counters c (slice_index k.counters c + amount) ∙ k.counters_are;
                lawful = lawful-after_add (state_of terms k.next k.counters seats) k.lawful i r at c inside_counters amount;
                few_pieces = k.few_pieces;
                few_seats = k.few_seats;
                past = each-written (λ q. q.past ≤ q.parts) seats i now k.past (k.past i r at);
                added = λ d. each-written (λ q. slice_index q.added d ≤ 2 ^ 40 * q.parts) seats i now (k.added d) (add_within d (cases_eq d c));
              }

          keeps_add : Keeps terms (set words (c + 1) ((slice_index words (c + 1) + amount) % 2 ^ 64)) (set seats i (Holding (with_add r c (slice_index words (c + 1)) amount)))
          keeps_add =
              subst (λ n. Keeps terms (set words (c + 1) ((slice_index words (c + 1) + amount) % 2 ^ 64)) (set seats i (Holding (with_add r c n amount)))) (sym (counter_is c)) add_counters

  module _ (slots id : ℕ) (me : Me (Unit {0}) SeatState) (is : me ≡ (Holding (record_in me.0), [])) where
    abbrev r : Record
    r = record_in me.0

    at_seat : (seats : List SeatState) → get_elem? seats id ≡ maybe.some me.0 → record_at seats id ≡ Some r
    at_seat seats at = record_at_shown seats id r (at ∙ ap (λ (x : Me (Unit {0}) SeatState). maybe.some x.0) is)

    pub claims : r.past ≡ 0 → Allows Holds slots id me 0 (λ n. (n + 1) % 2 ^ 64) (TellsClaim terms.pieces (step slots 0 1 0 maybe.none) me)
    claims none_past s k _ at _ =
        (Holding (with_claim r terms.pieces (slice_index s.words 0)), keeps, tt, keeps_claim s.words s.views k id r (at_seat s.views at) none_past, (refl, claimed_below s.words s.views k id r (at_seat s.views at)))

    -- the number of a counter, from that of its word
    pub reads : (c : ℕ) → c < terms.counters → Allows Holds slots id me (c + 1) (λ n. n) (TellsRead (step slots (c + 1) 0 0 maybe.none) me)
    reads c inside s k _ at _ =
        let here = at_seat s.views at in
        let n : ℕ = slice_index s.words (c + 1) in
        let one : (c + 1) - 1 ≡ c = omega arith in (
          Holding (with_read r c n),
          keeps,
          tt,
          keeps_read s.words s.views k id r here c inside,
          (ap (λ (d : ℕ). (Holding (with_read r d n), me.1)) (sym one), subst (λ d. KnowsNoMore r d n) (sym one) (known s.words s.views k id r here c inside)),
        )

    pub adds : (c amount : ℕ) → c < terms.counters → slice_index r.added c + amount ≤ 2 ^ 40
        → Allows Holds slots id me (c + 1) (λ n. (n + amount) % 2 ^ 64) (TellsAdd (step slots (c + 1) amount 0 maybe.none) me)
    adds c amount inside room s k _ at _ =
        let here = at_seat s.views at in
        let n : ℕ = slice_index s.words (c + 1) in
        let one : (c + 1) - 1 ≡ c = omega arith in (
          Holding (with_add r c n amount),
          keeps,
          tt,
          keeps_add s.words s.views k id r here c inside amount room,
          (ap (λ (d : ℕ). (Holding (with_add r d n amount), me.1)) (sym one), subst (λ d. KnowsNoMore r d n) (sym one) (known s.words s.views k id r here c inside)),
        )

  pub opens : 1 ≤ terms.seats → terms.seats ≤ 64 → terms.pieces ≤ 65536 → Keeps terms (replicate (terms.counters + 1) 0) (Holding (unused terms.seats terms.counters) ∷ [])
  opens some most pieces =
      let q : Record = unused terms.seats terms.counters in
      record {
        next = 0;
        counters = replicate terms.counters 0;
        words_are = ap (λ n. replicate n 0) (add-one terms.counters);
        counters_are = length-replicate terms.counters 0;
        lawful = lawful-opening terms.pieces terms.counters terms.seats some;
        few_pieces = pieces;
        few_seats = most;
        past = each-one (λ r. r.past ≤ r.parts) q (omega arith);
        added = λ c. each-one (λ r. slice_index r.added c ≤ 2 ^ 40 * r.parts) q (let none = index-replicate terms.counters c in omega arith);
      }

  pub splits : (id : ℕ) (v : SeatState) → v ≡ Holding (unused (record_in v).parts terms.counters) → 1 < (record_in v).parts
      → Splits Holds id v (Holding (with_one_part_less (record_in v))) (Holding (unused 1 (length (record_in v).added)))
  splits id v is more s k at =
      let r : Record = record_in v in
      let here : record_at s.views id ≡ Some r = record_at_shown s.views id r (at ∙ ap maybe.some (is ∙ ap (λ (x : SeatState). Holding (record_in x)) (sym is))) in
      let none_past : r.past ≡ 0 = ap (λ (x : SeatState). (record_in x).past) is in
      let none_added = λ (c : ℕ). ap (λ (x : SeatState). slice_index (record_in x).added c) is ∙ index-replicate terms.counters c in
      let size : length k.counters ≡ length r.added = sym (k.lawful.sizes id r here).0 in
      let fresh : Record = unused 1 (length r.added) in
      record {
        next = k.next;
        counters = k.counters;
        words_are = k.words_are;
        counters_are = k.counters_are;
        lawful = subst (λ n. Lawful (state_of terms k.next k.counters (set s.views id (Holding (with_one_part_less r)) ++ Holding (unused 1 n) ∷ []))) size
            (lawful-after_split (state_of terms k.next k.counters s.views) k.lawful id r here more);
        few_pieces = k.few_pieces;
        few_seats = k.few_seats;
        past = each-cut (λ q. q.past ≤ q.parts) s.views id (with_one_part_less r) fresh k.past (omega arith) (omega arith);
        added = λ c. each-cut (λ q. slice_index q.added c ≤ 2 ^ 40 * q.parts) s.views id (with_one_part_less r) fresh (k.added c)
            (let none = none_added c in omega arith) (let none = index-replicate (length r.added) c in omega arith);
      }

  pub joins : (id : ℕ) (v : SeatState) (other : ℕ) (w : SeatState) → v ≡ Holding (record_in v) → w ≡ Holding (record_in w) → Joins Holds id v other w (Holding (joined (record_in v) (record_in w))) Spent
  joins id v other w is_v is_w s k at apart at_other =
      let r : Record = record_in v in
      let t : Record = record_in w in
      let both : Record = joined r t in
      let here : record_at s.views id ≡ Some r = record_at_shown s.views id r (at ∙ ap maybe.some is_v) in
      let after : record_at (set s.views id (Holding both)) other ≡ Some t = record_at_shown (set s.views id (Holding both)) other t (at_other ∙ ap maybe.some is_w) in
      let there : record_at s.views other ≡ Some t = sym (record_at-set_other s.views id other (Holding both) apart) ∙ after in
      record {
        next = k.next;
        counters = k.counters;
        words_are = k.words_are;
        counters_are = k.counters_are;
        lawful = lawful-after_join (state_of terms k.next k.counters s.views) k.lawful id r here other t there (λ e. apart (sym e));
        few_pieces = k.few_pieces;
        few_seats = k.few_seats;
        past = each-joined (λ q. q.past ≤ q.parts) s.views id both other k.past (let a = k.past id r here in let b = k.past other t there in omega arith);
        added = λ c. each-joined (λ q. slice_index q.added c ≤ 2 ^ 40 * q.parts) s.views id both other (k.added c)
            (let a = k.added c id r here in let b = k.added c other t there in let sum = index-place_sums r.added t.added c in omega arith);
      }
