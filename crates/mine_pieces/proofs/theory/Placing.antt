-- Values put at the places of their pieces: each finds its place vacant, and where each piece came once, no place stays vacant.
use Rattle.std.proofs.Common.{◌≡◌, ◌≢◌, ℕ, zero, suc, ◌+◌, ◌<◌, ◌≤◌, cond, List, [], ◌∷◌, ◌++◌, map, length, replicate, get_or, set, Option, Some, None, refl, ap, sym, ◌∙◌, inl, inr, ◌⊎◌, arith, zero-add, true}
use Rattle.std.proofs.lemmas.Grind.{common_steps}
use Rattle.std.specs.Prelude.{◌==◌, All, IsPermutation, is_none, position, slice_get}
use Rattle.std.specs.List.{flat_map, range_with_len, sum_by}
use Rattle.std.proofs.lemmas.Bool.{cases_eq, cases_lt}
use Rattle.std.proofs.lemmas.Bool.Decides.{nat_tests}
use Rattle.std.proofs.lemmas.List.Sums.{sum_by-cons, sum_by-append}
use Rattle.std.proofs.lemmas.List.Sorted.{sum_by-IsPermutation}
use Rattle.std.proofs.lemmas.List.Elements.{recursion_from_All}
use Rattle.std.proofs.lemmas.List.Quantifiers.{position-Some}
use Rattle.std.proofs.Math.ListN.{length-set}
use Rattle.basket_ranks.proofs.theory.Shards.{shards_are_all}
use Rattle.basket_sets.proofs.theory.Members.{Member, at_Member}
use Rattle.mine_round.specs.Collector.{LacksValue}
use Rattle.mine_round.specs.Lawful.{times, once_below}
use Rattle.mine_round.specs.Totals.{HoldsNumbersBelow}
use Rattle.mine_pieces.specs.Pieces.{parts_of}
use Rattle.mine_pieces.specs.Placed.{HaveRoom, filled, placed}
use Rattle.mine_pieces.specs.WorkerResult.{numbers_of}
use Rattle.mine_pieces.proofs.theory.Seats.{sum_by-flat_map}

-- ---- how often a piece stands in a list

times-cons : (x y : ℕ) (ys : List ℕ) → times x (y ∷ ys) ≡ cond (y == x) 1 0 + times x ys
times-cons x y ys = sum_by-cons (λ z. cond (z == x) 1 0) y ys

pub times-append : (x : ℕ) (xs ys : List ℕ) → times x (xs ++ ys) ≡ times x xs + times x ys
times-append x xs ys = sum_by-append (λ z. cond (z == x) 1 0) xs ys

one : (x y k : ℕ) → y ≡ x → cond (y == x) 1 0 + k ≡ k + 1
one x y k e = grind (arith, nat_tests)

none : (x y k : ℕ) → y ≢ x → cond (y == x) 1 0 + k ≡ k
none x y k n = grind (arith, nat_tests)

times_same : (x y : ℕ) (ys : List ℕ) → y ≡ x → times x (y ∷ ys) ≡ times x ys + 1
times_same x y ys e = times-cons x y ys ∙ one x y (times x ys) e

times_other : (x y : ℕ) (ys : List ℕ) → y ≢ x → times x (y ∷ ys) ≡ times x ys
times_other x y ys n = times-cons x y ys ∙ none x y (times x ys) n

once_low : (bound x : ℕ) → x < bound → once_below bound x ≡ 1
once_low bound x h = grind (arith, nat_tests)

once_high : (bound x : ℕ) → bound ≤ x → once_below bound x ≡ 0
once_high bound x h = grind (arith, nat_tests)

-- each number below n stands once in a range of n numbers
below_range : (low n x : ℕ) → x < low → times x (range_with_len low n) ≡ 0
below_range low zero x h = refl
below_range low (suc n) x h = times_other x low (range_with_len (low + 1) n) (λ e. absurd (omega arith)) ∙ below_range (low + 1) n x (omega arith)

times-range : (low n x : ℕ) → low ≤ x → times x (range_with_len low n) ≡ once_below (low + n) x
times-range low zero x h = sym (once_high (low + 0) x (omega arith))
times-range low (suc n) x h = elim (cases_eq low x) [
  | inl e ↦ times_same x low (range_with_len (low + 1) n) e ∙ ap (λ k. k + 1) (below_range (low + 1) n x (omega arith)) ∙ sym (once_low (low + suc n) x (omega arith))
  | inr apart ↦ times_other x low (range_with_len (low + 1) n) apart ∙ times-range (low + 1) n x (omega arith) ∙ ap (λ k. once_below k x) (let e : (low + 1) + n ≡ low + suc n = omega arith in e)
]

pub times_all : (n x : ℕ) → times x (range_with_len 0 n) ≡ once_below n x
times_all n x = times-range 0 n x (omega arith) ∙ ap (λ k. once_below k x) (zero-add n)

-- ---- the parts of all pieces

-- where each piece is claimed once, a sum over their parts is the sum over all parts
sum_of_parts : (f : ℕ → ℕ) (parts pieces : ℕ) (claimed : List ℕ) → 1 ≤ pieces → IsPermutation claimed (range_with_len 0 pieces)
    → sum_by f (flat_map (parts_of parts pieces) claimed) ≡ sum_by f (range_with_len 0 parts)
sum_of_parts f parts pieces claimed some same =
    sum_by-flat_map f (parts_of parts pieces) claimed
    ∙ sym (sum_by-IsPermutation (λ piece. sum_by f (parts_of parts pieces piece)) claimed (range_with_len 0 pieces) same)
    ∙ sym (sum_by-flat_map f (parts_of parts pieces) (range_with_len 0 pieces))
    ∙ ap (sum_by f) (shards_are_all pieces (range_with_len 0 parts) some)

-- so their parts are all parts, each once
pub parts_once : (parts pieces : ℕ) → 1 ≤ pieces → (claimed : List ℕ) → IsPermutation claimed (range_with_len 0 pieces) → HoldsNumbersBelow parts (flat_map (parts_of parts pieces) claimed)
parts_once parts pieces some claimed same x = sum_of_parts (λ z. cond (z == x) 1 0) parts pieces claimed some same ∙ times_all parts x

module _ {X : Type 0} where
  -- ---- places

  filled_set_same : (places : List (Option X)) (x : ℕ) (v : X) → x < length places → filled (set places x (Some v)) x ≡ 1
  filled_set_same [] x v h = absurd (omega arith)
  filled_set_same (place ∷ places) zero v h = refl
  filled_set_same (None ∷ places) (suc x) v h = filled_set_same places x v (omega arith)
  filled_set_same (Some w ∷ places) (suc x) v h = filled_set_same places x v (omega arith)

  filled_set_other : (places : List (Option X)) (x y : ℕ) (v : X) → y ≢ x → filled (set places x (Some v)) y ≡ filled places y
  filled_set_other [] x y v apart = refl
  filled_set_other (place ∷ places) zero zero v apart = absurd (apart refl)
  filled_set_other (None ∷ places) zero (suc y) v apart = refl
  filled_set_other (Some w ∷ places) zero (suc y) v apart = refl
  filled_set_other (None ∷ places) (suc x) zero v apart = refl
  filled_set_other (Some w ∷ places) (suc x) zero v apart = refl
  filled_set_other (None ∷ places) (suc x) (suc y) v apart = filled_set_other places x y v (λ e. apart (ap suc e))
  filled_set_other (Some w ∷ places) (suc x) (suc y) v apart = filled_set_other places x y v (λ e. apart (ap suc e))

  filled_vacant : (vacant : List (Option X)) (n : ℕ) → vacant ≡ replicate n None → (x : ℕ) → filled vacant x ≡ 0
  filled_vacant [] n e x = refl
  filled_vacant (Some v ∷ vacant) zero e x = absurd cc
  filled_vacant (Some v ∷ vacant) (suc n) e x = absurd cc
  filled_vacant (None ∷ vacant) zero e x = absurd cc
  filled_vacant (None ∷ vacant) (suc n) e zero = refl
  filled_vacant (None ∷ vacant) (suc n) e (suc x) = let rest : vacant ≡ replicate n None = cc in filled_vacant vacant n rest x

  -- a place that is not filled lacks its value
  lacks : (places : List (Option X)) (x : ℕ) → x < length places → filled places x ≡ 0 → LacksValue places x
  lacks [] x h none = absurd (omega arith)
  lacks (None ∷ places) zero h none = refl
  lacks (Some v ∷ places) zero h none = absurd (omega arith)
  lacks (None ∷ places) (suc x) h none = lacks places x (omega arith) none
  lacks (Some v ∷ places) (suc x) h none = lacks places x (omega arith) none

  vacant_at : (places : List (Option X)) (x : ℕ) (d : Option X) → x < length places → is_none (get_or places x d) ≡ true → filled places x ≡ 0
  vacant_at [] x d h none = absurd (omega arith)
  vacant_at (None ∷ places) zero d h none = refl
  vacant_at (Some v ∷ places) zero d h none = absurd cc
  vacant_at (None ∷ places) (suc x) d h none = vacant_at places x d (omega arith) none
  vacant_at (Some v ∷ places) (suc x) d h none = vacant_at places x d (omega arith) none

  -- ---- the next value

  pub next_is_vacant : (places : List (Option X)) (x : ℕ) (pieces : List ℕ) → HaveRoom places (x ∷ pieces) → (x < length places) × (filled places x ≡ 0)
  next_is_vacant places x pieces room = grind (arith, common_steps, one, times_same x x pieces refl, cases_lt x (length places), none)

  pub next_lacks : (places : List (Option X)) (x : ℕ) (pieces : List ℕ) → HaveRoom places (x ∷ pieces) → LacksValue places x
  next_lacks places x pieces room = let v = next_is_vacant places x pieces room in lacks places x v.0 v.1

  -- a value that is put moves its piece from those that come to those that are filled
  moved : (places : List (Option X)) (x : ℕ) (v : X) (pieces : List ℕ) → x < length places → filled places x ≡ 0 → (y : ℕ)
      → times y (x ∷ pieces) + filled places y ≡ times y pieces + filled (set places x (Some v)) y
  moved places x v pieces below none y = grind (arith, common_steps, cases_eq, times_same, filled_set_same, none, times_other, filled_set_other)

  pub room_next : (places : List (Option X)) (x : ℕ) (v : X) (pieces : List ℕ) → HaveRoom places (x ∷ pieces) → HaveRoom (set places x (Some v)) pieces
  room_next places x v pieces room y =
      let at = next_is_vacant places x pieces room in
      let m = moved places x v pieces at.0 at.1 y in
      let same = ap (λ n. once_below n y) (length-set places x (Some v)) in
      let r = room y in omega arith

  pub length-placed : (places : List (Option X)) (values : List (ℕ × X)) → length (placed places values) ≡ length places
  length-placed places [] = refl
  length-placed places (value ∷ values) = length-placed (set places value.0 (Some value.1)) values ∙ length-set places value.0 (Some value.1)

  pub placed-append : (places : List (Option X)) (values others : List (ℕ × X)) → placed places (values ++ others) ≡ placed (placed places values) others
  placed-append places [] others = refl
  placed-append places (value ∷ values) others = placed-append (set places value.0 (Some value.1)) values others

  -- so many values move so many pieces
  pub moved_all : (places : List (Option X)) (values : List (ℕ × X)) → HaveRoom places (numbers_of values) → (y : ℕ)
      → times y (numbers_of values) + filled places y ≡ filled (placed places values) y
  moved_all places [] room y = zero-add (filled places y)
  moved_all places (value ∷ values) room y =
      let at = next_is_vacant places value.0 (numbers_of values) room in
      moved places value.0 value.1 (numbers_of values) at.0 at.1 y
      ∙ moved_all (set places value.0 (Some value.1)) values (room_next places value.0 value.1 (numbers_of values) room) y

  -- ---- all pieces

  -- the pieces that come and those that are filled are all pieces, each once
  abbrev pub AreAll : List (Option X) → List ℕ → Type 0
  AreAll places pieces = (x : ℕ) → times x pieces + filled places x ≡ once_below (length places) x

  pub all_at_first : (places : List (Option X)) (pieces : List ℕ) → places ≡ replicate (length places) None → HoldsNumbersBelow (length places) pieces → AreAll places pieces
  all_at_first places pieces vacant holds x = grind (arith, common_steps, filled_vacant)

  pub room_for_front : (places : List (Option X)) (front rest : List ℕ) → AreAll places (front ++ rest) → HaveRoom places front
  room_for_front places front rest all x = let a = all x in let t = times-append x front rest in omega arith

  pub all_after : (places : List (Option X)) (values : List (ℕ × X)) (rest : List ℕ) → AreAll places (numbers_of values ++ rest) → AreAll (placed places values) rest
  all_after places values rest all x = grind (arith, common_steps, times-append, moved_all, room_for_front, length-placed)

  -- at the end no place is vacant
  pub none_vacant : (places : List (Option X)) (piece : ℕ) → AreAll places [] → position is_none places ≡ Some piece → ⊥
  none_vacant places piece all found =
      let at = position-Some is_none places piece None found in
      let none = vacant_at places piece None at.0 at.1 in
      let a = all piece in
      let once = once_low (length places) piece at.0 in
      let zero_times : times piece [] ≡ 0 = refl in
      absurd (omega arith)

  -- ---- what stands there

  set_at : (places : List (Option X)) (y x : ℕ) (w v : X) → slice_get (set places y (Some w)) x ≡ Some (Some v) → (slice_get places x ≡ Some (Some v)) ⊎ ◌≡◌ {A = ℕ × X} (y, w) (x, v)
  set_at [] y x w v e = inl e
  set_at (place ∷ places) zero zero w v e = inr (let same : w ≡ v = cc in let pair : X → ℕ × X = λ u. (zero, u) in ap pair same)
  set_at (place ∷ places) zero (suc x) w v e = inl e
  set_at (place ∷ places) (suc y) zero w v e = inl e
  set_at (place ∷ places) (suc y) (suc x) w v e = elim (set_at places y x w v e) [ inl old ↦ inl old | inr now ↦ inr (ap (λ (p : ℕ × X). (suc p.0, p.1)) now) ]

  -- the value at a piece came with the piece
  pub came_with : (places : List (Option X)) (values : List (ℕ × X)) (x : ℕ) (v : X) → slice_get (placed places values) x ≡ Some (Some v)
      → (slice_get places x ≡ Some (Some v)) ⊎ Member (x, v) values
  came_with places [] x v at = inl at
  came_with places ((y, w) ∷ values) x v at = grind (arith, common_steps, came_with (set places y (Some w)) values x v at, set_at)

  slice_get-map : (values : List X) (x : ℕ) (d : X) → x < length values → slice_get (map Some values) x ≡ Some (Some (get_or values x d))
  slice_get-map [] x d h = absurd (omega arith)
  slice_get-map (v ∷ values) zero d h = refl
  slice_get-map (v ∷ values) (suc x) d h = slice_get-map values x d (omega arith)

  none_there : (vacant : List (Option X)) (n x : ℕ) (v : X) → vacant ≡ replicate n None → slice_get vacant x ≡ Some (Some v) → ⊥
  none_there [] n x v e at = absurd cc
  none_there (place ∷ vacant) zero x v e at = absurd cc
  none_there (place ∷ vacant) (suc n) zero v e at = let here : place ≡ None = cc in absurd cc
  none_there (place ∷ vacant) (suc n) (suc x) v e at = let rest : vacant ≡ replicate n None = cc in none_there vacant n x v rest at

  -- what holds of each value with its piece holds of each value at its place
  pub each_value : (Q : ℕ × X → Type 0) (vacant : List (Option X)) (n : ℕ) (all : List (ℕ × X)) (values : List X) → vacant ≡ replicate n None → map Some values ≡ placed vacant all
      → All Q all → (piece : ℕ) (d : X) → piece < length values → Q (piece, get_or values piece d)
  each_value Q vacant n all values none is each piece d below =
      elim (came_with vacant all piece (get_or values piece d) (ap (λ l. slice_get l piece) (sym is) ∙ slice_get-map values piece d below)) [
        | inl there ↦ absurd (none_there vacant n piece (get_or values piece d) none there)
        | inr m ↦ at_Member Q (piece, get_or values piece d) all (recursion_from_All Q all each) m
      ]
