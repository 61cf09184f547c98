-- Tests of all members of a list, and what stands at an index.
use Rattle.std.proofs.Common.{◌≡◌, ℕ, ◌+◌, ◌<◌, Bool, true, false, ◌||◌, List, [], ◌∷◌, length, get_or, cond, eqb, ltb, refl, sym, ap, ◌∙◌, inl, inr, arith, zero, suc}
use Rattle.std.specs.List.{list_all}
use Rattle.std.proofs.lemmas.Bool.{and_from, and_parts, ltb-true, ne_eqb}
use Rattle.basket_sets.specs.Counts.{AllBelow}
use Rattle.basket_sets.specs.Itemset.{IsRising}
use Rattle.basket_sets.proofs.theory.Members.{Member}
use Rattle.basket_sets.proofs.theory.Rising.{first_below, has-from_Member, Member-from_has, rest_rises}

pub each_of : {K : Type 0} (p : K → Bool) (xs : List K) → list_all p xs ≡ true → (x : K) → Member x xs → p x ≡ true
each_of p [] h x m = absurd m
each_of p (y ∷ ys) h x (inl e) = ap p (sym e) ∙ (and_parts (p y) (list_all p ys) h).0
each_of p (y ∷ ys) h x (inr m) = each_of p ys (and_parts (p y) (list_all p ys) h).1 x m

pub all_of : {K : Type 0} (p : K → Bool) (xs : List K) → ((x : K) → Member x xs → p x ≡ true) → list_all p xs ≡ true
all_of p [] h = refl
all_of p (y ∷ ys) h = and_from (p y) (list_all p ys) (h y (inl refl)) (all_of p ys (λ x m. h x (inr m)))

pub or_true : (b : Bool) → (b || true) ≡ true
or_true b = grind arith

pub or_false : (b : Bool) → (b || false) ≡ b
or_false b = grind arith

pub apart_eqb : (x y : ℕ) → (x ≡ y → ⊥) → eqb x y ≡ false
apart_eqb = ne_eqb

-- each item of a list that passes the test is below the bound
pub below_from_all : (bound : ℕ) (items : List ℕ) → list_all (λ item. ltb item bound) items ≡ true → AllBelow bound items
below_from_all bound items all item h = ltb-true item bound (each_of (λ n. ltb n bound) items all item (Member-from_has items item h))

-- ---- a number if a test holds

pub cond_sum : (a : Bool) (m n : ℕ) → cond a m 0 + cond a n 0 ≡ cond a (m + n) 0
cond_sum a m n = grind arith

pub same_cond : (a : Bool) (n : ℕ) → cond a n n ≡ n
same_cond a n = grind arith

-- ---- what stands at an index

pub Member-at : (xs : List ℕ) (k : ℕ) → k < length xs → Member (get_or xs k 0) xs
Member-at [] k below = absurd (omega arith)
Member-at (x ∷ xs) zero below = inl refl
Member-at (x ∷ xs) (suc k) below = inr (Member-at xs k (omega arith))

pub rising_at : (xs : List ℕ) (j k : ℕ) → IsRising xs → j < k → k < length xs → get_or xs j 0 < get_or xs k 0
rising_at [] j k up less below = absurd (omega arith)
rising_at (x ∷ xs) j zero up less below = absurd (omega arith)
rising_at (x ∷ xs) zero (suc k) up less below = first_below x xs up (get_or xs k 0) (Member-at xs k (omega arith))
rising_at (x ∷ xs) (suc j) (suc k) up less below = rising_at xs j k (rest_rises x xs up) (omega arith) (omega arith)

pub all_below_at : (n : ℕ) (xs : List ℕ) (k : ℕ) → AllBelow n xs → k < length xs → get_or xs k 0 < n
all_below_at n xs k below here = below (get_or xs k 0) (has-from_Member xs (get_or xs k 0) (Member-at xs k here))
