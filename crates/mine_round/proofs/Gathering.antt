-- Seats that join one after another, and the last of them.
use Rattle.std.proofs.Common.{◌≡◌, ◌≢◌, ℕ, suc, ◌+◌, ◌<◌, ◌≤◌, ◌⊎◌, max, min, cond, get_or, List, [], ◌∷◌, ◌++◌, length, length-append, set, Some, refl, ap, sym, ◌∙◌, arith}
use Rattle.std.proofs.lemmas.Grind.{common_steps}
use Rattle.std.specs.Prelude.{slice_index, ◌==◌, Any}
use Rattle.std.specs.Prelude.{IsPermutation}
use Rattle.std.specs.List.{range_with_len}
use Rattle.std.proofs.lemmas.Bool.{cases_eq}
use Rattle.std.proofs.lemmas.List.Sums.{sum_by-append, sum_by_push, get_or-le-sum_by}
use mathlib.Core.Option as maybe
use lib.ListN.{get_elem?}
use Rattle.mine_round.specs.declared.state.Record.{Record}
use Rattle.mine_round.specs.declared.state.SeatState.{SeatState}
use Rattle.mine_round.specs.declared.state.SeatState.TheVariants.{Spent, Holding}
use Rattle.mine_round.specs.declared.words.Terms.{Terms}
use Rattle.mine_round.specs.Record.{joined}
use Rattle.mine_round.specs.Machine.{Machine, record_at}
use Rattle.mine_round.specs.Lawful.{total, times, EachRecord, Lawful}
use Rattle.mine_round.specs.SeatView.{SeatView}
use Rattle.mine_round.specs.Totals.{greatest_by, claimed_by, Gathers, Settles}
use Rattle.mine_round.specs.Words.{state_of, Keeps}
use Rattle.mine_round.proofs.Counting.{length_once}
use Rattle.mine_round.proofs.Permuted.{permuted_below}
use Rattle.mine_round.proofs.Places.{index-place_sums, index-place_maxima}
use Rattle.mine_round.proofs.Rule.{found_is, counter_is}
use Rattle.mine_round.proofs.Records.{each-set, holds_of_spent, record_at_shown, record_at-set_other, same_record, total-set, number-le-total}

greatest_by-push : (f : SeatView → ℕ) (xs : List SeatView) (x : SeatView) → greatest_by f (xs ++ x ∷ []) ≡ max (greatest_by f xs) (f x)
greatest_by-push f [] x = omega arith
greatest_by-push f (y ∷ xs) x = let rest = greatest_by-push f xs x in omega arith

times-claimed_by : (x : ℕ) (xs : List SeatView) (s : SeatView) → times x (claimed_by (xs ++ s ∷ [])) ≡ times x (claimed_by xs) + times x s.held.claimed
times-claimed_by x xs s = grind (arith, common_steps)

-- the first seat has what it did itself
pub gathers_first : (xs : List SeatView) (s : SeatView) → s.held.parts ≡ 1 → Gathers s.held xs (xs ++ s ∷ [])
gathers_first xs s one = grind (arith, common_steps, times-claimed_by, sum_by_push, greatest_by-push)

-- a seat joins
pub gathers_next : (r : Record) (xs all : List SeatView) (s : SeatView) → s.held.parts ≡ 1 → Gathers r (xs ++ s ∷ []) all → Gathers (joined r s.held) xs all
gathers_next r xs all s one g = record {
  parts = let was = g.parts in omega (arith, length-append xs (s ∷ []));
  claimed = λ x. let was = g.claimed x in let e = times-claimed_by x xs s in let both = sum_by-append (λ y. cond (y == x) 1 0) r.claimed s.held.claimed in omega arith;
  past = let was = g.past in let e = sum_by_push (λ (t : SeatView). t.held.past) xs s in omega arith;
  added = λ c. let was = g.added c in let e = sum_by_push (λ (t : SeatView). slice_index t.held.added c) xs s in let sum = index-place_sums r.added s.held.added c in omega arith;
  seen = λ c. let was = g.seen c in let e = greatest_by-push (λ (t : SeatView). slice_index t.held.seen c) xs s in let most = index-place_maxima r.seen s.held.seen c in omega arith;
}

-- where no part is left, nothing is
none_left : (seats : List SeatState) → EachRecord seats (λ r. 1 ≤ r.parts) → total (λ r. r.parts) seats ≡ 0 → (f : Record → ℕ) → total f seats ≡ 0
none_left [] each none f = refl
none_left (Spent ∷ seats) each none f = let rest = none_left seats (λ i r e. each (suc i) r e) (omega arith) f in omega arith
none_left (Holding r ∷ seats) each none f = let some = each 0 r refl in absurd (omega arith)

-- a seat with every part has all that was done
module _ (m : Machine) (h : Lawful m) (i : ℕ) (r : Record) (at : record_at m.seats i ≡ Some r) (whole : m.parts ≤ r.parts) where
  abbrev others : List SeatState
  others = set m.seats i Spent

  each_other : EachRecord others (λ q. 1 ≤ q.parts)
  each_other = each-set (λ q. 1 ≤ q.parts) m.seats i Spent h.whole (holds_of_spent (λ q. 1 ≤ q.parts))

  no_part_left : total (λ q. q.parts) others ≡ 0
  no_part_left = let parts = h.parts in let sum = total-set (λ q. q.parts) m.seats i Spent r at in omega arith

  pub total_is : (f : Record → ℕ) → total f m.seats ≡ f r
  total_is f = let sum = total-set f m.seats i Spent r at in let none = none_left others each_other no_part_left f in omega arith

  seen_at : (c k : ℕ) (q : Record) → record_at m.seats k ≡ Some q → slice_index q.seen c ≡ slice_index m.counters c → (k ≡ i) ⊎ (k ≢ i) → slice_index r.seen c ≡ slice_index m.counters c
  seen_at h1 h2 h3 h4 h5 h6 = grind (arith, common_steps, same_record, record_at-set_other, each_other, number-le-total, no_part_left)

  pub seen_is : (c : ℕ) → slice_index r.seen c ≡ slice_index m.counters c
  seen_is c = let was = h.reached c in seen_at c was.0 was.1 was.2 was.3 (cases_eq was.0 i)

-- what the words say of the record of a seat with every part
pub settles : (terms : Terms) (words : List ℕ) (seats : List SeatState) (i : ℕ) (r : Record) (totals : List ℕ)
    → Keeps terms words seats → get_elem? seats i ≡ maybe.some (Holding r) → terms.seats ≤ r.parts
    → ((c : ℕ) → c < length totals → slice_index totals c ≡ slice_index words (c + 1)) → Settles terms r (slice_index words 0) totals
settles terms words seats i r totals k at whole is =
    let m = state_of terms k.next k.counters seats in
    let here = record_at_shown seats i r at in
    let all = total_is m k.lawful i r here whole in
    record {
      claimed = λ x. rw (found_is terms words seats k) (sym (all (λ q. times x q.claimed)) ∙ k.lawful.claimed x);
      next = found_is terms words seats k ∙ (let e = k.lawful.next in let a = all (λ q. length q.claimed) in let b = all (λ q. q.past) in omega arith);
      added = λ c inside. is c inside ∙ counter_is terms words seats k c ∙ k.lawful.counters c ∙ all (λ q. slice_index q.added c);
      seen = λ c inside. is c inside ∙ counter_is terms words seats k c ∙ sym (seen_is m k.lawful i r here whole c);
    }

-- what the record of all seats says of the seats
module _ (terms : Terms) (r : Record) (all : List SeatView) (number : ℕ) (totals : List ℕ) (g : Gathers r [] all) (s : Settles terms r number totals) where
  -- the seats claimed the numbers below the piece word and the number of pieces
  pub all_claimed : IsPermutation (claimed_by all) (range_with_len 0 (min number terms.pieces))
  all_claimed = permuted_below (min number terms.pieces) (claimed_by all) (λ x. let e = g.claimed x in let is = s.claimed x in omega arith)

  -- they claimed each piece where one of them saw the end
  pub all_ended : Any (λ (seat : SeatView). 0 < seat.held.past) all → min number terms.pieces ≡ terms.pieces
  all_ended any =
      let here = get_or-le-sum_by (λ (seat : SeatView). seat.held.past) all any.0 any.1 any.2 in
      let it : (get_or all any.0 any.1).held.past ≡ any.1.held.past = ap (λ (seat : SeatView). seat.held.past) any.3 in
      let some = any.4 in
      let past = g.past in let next = s.next in
      let count = length_once (min number terms.pieces) r.claimed s.claimed in
      omega arith
