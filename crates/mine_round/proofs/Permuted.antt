-- A list with each number of a range once, and no other, is the range in another order.
use Rattle.std.proofs.Common.{◌≡◌, ◌≢◌, ℕ, zero, suc, ◌+◌, ◌<◌, ◌≤◌, ⊎_elim, cond, nat_lt, List, [], ◌∷◌, length, get_or, refl, sym, ◌∙◌, subst, arith}
use Rattle.std.proofs.lemmas.Grind.{common_steps}
use Rattle.std.specs.Prelude.{◌==◌, IsPermutation}
use Rattle.std.specs.List.{remove, range_with_len}
use Rattle.std.proofs.lemmas.Bool.{cases_eq}
use Rattle.std.proofs.lemmas.Bool.Decides.{nat_tests}
use Rattle.std.proofs.lemmas.List.Sums.{sum_by-cons}
use Rattle.std.proofs.lemmas.List.Sorted.{IsPermutation-refl, IsPermutation-cons, IsPermutation-remove, IsPermutation-trans}
use Rattle.mine_round.specs.Lawful.{times, once_below}

-- 1 for a number of the range, and else 0
abbrev once_between : ℕ → ℕ → ℕ → ℕ
once_between low high x = cond (nat_lt x low) 0 (once_below high x)

counts_equal : (y x k : ℕ) → y ≡ x → cond (y == x) 1 0 + k ≡ k + 1
counts_equal y x k e = grind (arith, nat_tests)

counts_other : (y x k : ℕ) → y ≢ x → cond (y == x) 1 0 + k ≡ k
counts_other y x k n = grind (arith, nat_tests)

times-cons : (x y : ℕ) (ys : List ℕ) → times x (y ∷ ys) ≡ cond (y == x) 1 0 + times x ys
times-cons x y ys = sum_by-cons (λ z. cond (z == x) 1 0) y ys

-- a place where a number stands that is counted
place_of : (x : ℕ) (xs : List ℕ) → 1 ≤ times x xs → (i : ℕ) × (i < length xs) × (x ≡ get_or xs i x)
place_of x [] h = absurd (omega arith)
place_of x (y ∷ ys) h = ⊎_elim
    (λ (e : y ≡ x). (0, omega arith, sym e))
    (λ (n : y ≢ x). let cons = times-cons x y ys in let other = counts_other y x (times x ys) n in let there = place_of x ys (omega arith) in (suc there.0, omega arith, there.2))
    (cases_eq y x)

none_between : (low x : ℕ) → once_between low (low + 0) x ≡ 0
none_between low x = grind (arith, nat_tests)

first_between : (low n : ℕ) → once_between low (low + suc n) low ≡ suc zero
first_between low n = grind (arith, nat_tests)

rest_between : (low n x : ℕ) → once_between low (low + suc n) x ≡ once_between (low + 1) (low + 1 + n) x + cond (low == x) 1 0
rest_between low n x = grind (arith, nat_tests)

no_number : (xs : List ℕ) → ((x : ℕ) → times x xs ≡ 0) → xs ≡ []
no_number [] h = refl
no_number (y ∷ ys) h = let cons = times-cons y y ys in let here = counts_equal y y (times y ys) refl in let none = h y in absurd (omega arith)

-- what is counted once the least number has left
counted_after : (low n : ℕ) (xs : List ℕ) (i : ℕ) → i < length xs → low ≡ get_or xs i low → ((x : ℕ) → times x xs ≡ once_between low (low + suc n) x)
    → (x : ℕ) → times x (remove xs i) ≡ once_between (low + 1) (low + 1 + n) x
counted_after low n xs i inside is h x = grind (arith, common_steps, rest_between low n x)

permuted_range : (n low : ℕ) (xs : List ℕ) → ((x : ℕ) → times x xs ≡ once_between low (low + n) x) → IsPermutation xs (range_with_len low n)
permuted_range zero low xs h = subst (λ ys. IsPermutation ys []) (sym (no_number xs (λ x. h x ∙ none_between low x))) (IsPermutation-refl [])
permuted_range (suc n) low xs h =
    let some : 1 ≤ times low xs = (let first = h low in let one = first_between low n in omega arith) in
    let place = place_of low xs some in
    let left = remove xs place.0 in
    IsPermutation-trans xs (low ∷ left) (range_with_len low (suc n)) (IsPermutation-remove xs place.0 low place.1 place.2)
    (IsPermutation-cons low left (range_with_len (low + 1) n) (permuted_range n (low + 1) left (counted_after low n xs place.0 place.1 place.2 h)))

pub permuted_below : (bound : ℕ) (xs : List ℕ) → ((x : ℕ) → times x xs ≡ once_below bound x) → IsPermutation xs (range_with_len 0 bound)
permuted_below bound xs h = permuted_range bound 0 xs (λ x. h x ∙ grind (arith, nat_tests))
