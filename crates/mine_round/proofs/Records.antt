-- Records and totals of a list of seats, after one seat changed or came.
use Rattle.std.proofs.Common.{◌≡◌, ◌≢◌, ℕ, zero, suc, ◌+◌, ◌≤◌, ◌⊎◌, inl, inr, List, [], ◌∷◌, ◌++◌, set, Some, None, refl, ap, sym, subst, arith}
use Rattle.std.proofs.lemmas.Grind.{common_steps}
use mathlib.Core.Option.{some, some-injective, some-ne-none}
use lib.ListN.{get_elem?}
use Rattle.mine_round.specs.declared.state.Record.{Record}
use Rattle.mine_round.specs.declared.state.SeatState.{SeatState}
use Rattle.mine_round.specs.declared.state.SeatState.TheVariants.{Spent, Holding}
use Rattle.mine_round.specs.Machine.{record_of, record_at}
use Rattle.mine_round.specs.Lawful.{number_of, total, EachRecord}

pub none_is_not_some : (r : Record) → None ≡ Some r → ⊥
none_is_not_some r e = cc

-- the record at a place after one seat was written
pub record_at-set : (xs : List SeatState) (i j : ℕ) (w : SeatState) (r : Record) → record_at (set xs i w) j ≡ Some r → ((j ≡ i) × (record_of w ≡ Some r)) ⊎ ((j ≢ i) × (record_at xs j ≡ Some r))
record_at-set [] i j w r e = absurd (none_is_not_some r e)
record_at-set (x ∷ xs) zero zero w r e = inl (refl, e)
record_at-set (x ∷ xs) zero (suc j) w r e = inr ((λ h. omega arith), e)
record_at-set (x ∷ xs) (suc i) zero w r e = inr ((λ h. omega arith), e)
record_at-set (x ∷ xs) (suc i) (suc j) w r e = grind (arith, common_steps, record_at-set xs i j w r e)

pub record_at-set_same : (xs : List SeatState) (i : ℕ) (w : SeatState) (r : Record) → record_at xs i ≡ Some r → record_at (set xs i w) i ≡ record_of w
record_at-set_same [] i w r e = absurd (none_is_not_some r e)
record_at-set_same (x ∷ xs) zero w r e = refl
record_at-set_same (x ∷ xs) (suc i) w r e = record_at-set_same xs i w r e

pub record_at-set_other : (xs : List SeatState) (i j : ℕ) (w : SeatState) → j ≢ i → record_at (set xs i w) j ≡ record_at xs j
record_at-set_other [] i j w n = refl
record_at-set_other (x ∷ xs) zero zero w n = absurd (n refl)
record_at-set_other (x ∷ xs) zero (suc j) w n = refl
record_at-set_other (x ∷ xs) (suc i) zero w n = refl
record_at-set_other (x ∷ xs) (suc i) (suc j) w n = record_at-set_other xs i j w (λ e. n (ap suc e))

-- the record at a place after a seat came
pub record_at-append : (xs : List SeatState) (j : ℕ) (w : SeatState) (r : Record) → record_at (xs ++ w ∷ []) j ≡ Some r → (record_at xs j ≡ Some r) ⊎ (record_of w ≡ Some r)
record_at-append [] zero w r e = inr e
record_at-append [] (suc j) w r e = absurd (none_is_not_some r e)
record_at-append (x ∷ xs) zero w r e = inl e
record_at-append (x ∷ xs) (suc j) w r e = record_at-append xs j w r e

pub record_at_longer : (xs ys : List SeatState) (j : ℕ) (r : Record) → record_at xs j ≡ Some r → record_at (xs ++ ys) j ≡ Some r
record_at_longer [] ys j r e = absurd (none_is_not_some r e)
record_at_longer (x ∷ xs) ys zero r e = e
record_at_longer (x ∷ xs) ys (suc j) r e = record_at_longer xs ys j r e

-- a seat that the table shows with a record has it
pub record_at_shown : (xs : List SeatState) (i : ℕ) (r : Record) → get_elem? xs i ≡ some (Holding r) → record_at xs i ≡ Some r
record_at_shown [] i r e = absurd (some-ne-none (Holding r) (sym e))
record_at_shown (x ∷ xs) zero r e = ap record_of (some-injective x (Holding r) e)
record_at_shown (x ∷ xs) (suc i) r e = record_at_shown xs i r e

-- two records at one place are one
pub same_record : (r q : Record) → Some r ≡ Some q → r ≡ q
same_record r q e = cc

module _ (P : Record → Type 0) where
  -- it holds of the record that a seat holds, if it holds one
  pub holds_of : (r : Record) → P r → (q : Record) → record_of (Holding r) ≡ Some q → P q
  holds_of r here q e = subst P (same_record r q e) here

  pub holds_of_spent : (q : Record) → record_of Spent ≡ Some q → P q
  holds_of_spent q e = absurd (none_is_not_some q e)

  pub each-set : (xs : List SeatState) (i : ℕ) (w : SeatState) → EachRecord xs P → ((q : Record) → record_of w ≡ Some q → P q) → EachRecord (set xs i w) P
  each-set xs i w old here j q e = grind (arith, common_steps, record_at-set)

  pub each-append : (xs : List SeatState) (w : SeatState) → EachRecord xs P → ((q : Record) → record_of w ≡ Some q → P q) → EachRecord (xs ++ w ∷ []) P
  each-append xs w old here j q e = grind (arith, common_steps, record_at-append)

  pub each-one : (r : Record) → P r → EachRecord (Holding r ∷ []) P
  each-one h1 h2 h3 h4 h5 = grind (arith, common_steps)

  -- after one seat's record was written
  pub each-written : (xs : List SeatState) (i : ℕ) (r : Record) → EachRecord xs P → P r → EachRecord (set xs i (Holding r)) P
  each-written xs i r old here = each-set xs i (Holding r) old (holds_of r here)

  -- after a seat was cut from another
  pub each-cut : (xs : List SeatState) (i : ℕ) (r fresh : Record) → EachRecord xs P → P r → P fresh → EachRecord (set xs i (Holding r) ++ Holding fresh ∷ []) P
  each-cut xs i r fresh old here new = each-append (set xs i (Holding r)) (Holding fresh) (each-written xs i r old here) (holds_of fresh new)

  -- after a seat joined another
  pub each-joined : (xs : List SeatState) (i : ℕ) (r : Record) (j : ℕ) → EachRecord xs P → P r → EachRecord (set (set xs i (Holding r)) j Spent) P
  each-joined xs i r j old here = each-set (set xs i (Holding r)) j Spent (each-written xs i r old here) holds_of_spent

module _ (f : Record → ℕ) where
  pub total-set : (xs : List SeatState) (i : ℕ) (w : SeatState) (r : Record) → record_at xs i ≡ Some r → total f (set xs i w) + f r ≡ total f xs + number_of f w
  total-set [] i w r e = absurd (none_is_not_some r e)
  total-set (Spent ∷ xs) zero w r e = absurd (none_is_not_some r e)
  total-set (Holding q ∷ xs) zero w r e = let same : f q ≡ f r = ap f (same_record q r e) in omega arith
  total-set (x ∷ xs) (suc i) w r e = let rest = total-set xs i w r e in omega arith

  pub total-append : (xs : List SeatState) (w : SeatState) → total f (xs ++ w ∷ []) ≡ total f xs + number_of f w
  total-append [] w = omega arith
  total-append (x ∷ xs) w = let rest = total-append xs w in omega arith

  pub number-le-total : (xs : List SeatState) (i : ℕ) (r : Record) → record_at xs i ≡ Some r → f r ≤ total f xs
  number-le-total [] i r e = absurd (none_is_not_some r e)
  number-le-total (Spent ∷ xs) zero r e = absurd (none_is_not_some r e)
  number-le-total (Holding q ∷ xs) zero r e = let same : f q ≡ f r = ap f (same_record q r e) in omega arith
  number-le-total (x ∷ xs) (suc i) r e = let rest = number-le-total xs i r e in omega arith
