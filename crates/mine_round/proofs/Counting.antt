-- A list with each number below a bound once, and no other, is as long as the bound.
use Rattle.std.proofs.Common.{◌≡◌, ℕ, zero, suc, ◌+◌, ◌<◌, cond, min, nat_lt, List, [], ◌∷◌, ◌++◌, length, length-append, refl, sym, ◌∙◌, arith}
use Rattle.std.proofs.lemmas.Grind.{common_steps}
use Rattle.std.specs.Prelude.{◌==◌, sum}
use Rattle.std.proofs.lemmas.Bool.Decides.{nat_tests}
use Rattle.std.proofs.lemmas.List.Sums.{sum_by-cons, sum_by-append}
use Rattle.mine_round.specs.declared.state.SeatState.{SeatState}
use Rattle.mine_round.specs.declared.state.SeatState.TheVariants.{Spent, Holding}
use Rattle.mine_round.specs.Lawful.{total, times, once_below}

-- how many numbers of a list are below a bound
abbrev below : ℕ → List ℕ → ℕ
below n [] = 0
below n (x ∷ xs) = cond (nat_lt x n) 1 0 + below n xs

one_more : (n x : ℕ) → cond (nat_lt x (n + 1)) 1 0 ≡ cond (nat_lt x n) 1 0 + cond (x == n) 1 0
one_more n x = grind (arith, nat_tests)

below_next : (n : ℕ) (xs : List ℕ) → below (n + 1) xs ≡ below n xs + times n xs
below_next n [] = refl
below_next n (x ∷ xs) = let rest = below_next n xs in let here = one_more n x in let cons = sum_by-cons (λ y. cond (y == n) 1 0) x xs in omega arith

below_none : (xs : List ℕ) → below 0 xs ≡ 0
below_none [] = refl
below_none (x ∷ xs) = let rest = below_none xs in grind (arith, nat_tests)

one_below : (n x k : ℕ) → x < n → cond (nat_lt x n) 1 0 + k ≡ k + 1
one_below n x k h = grind (arith, nat_tests)

below_all : (n : ℕ) (xs : List ℕ) → sum xs < n → below n xs ≡ length xs
below_all n [] h = refl
below_all n (x ∷ xs) h = let cons = sum_by-cons (λ y. y) x xs in let rest = below_all n xs (omega arith) in let here = one_below n x (below n xs) (omega arith) in omega arith

once_at : (bound n : ℕ) → min n bound + once_below bound n ≡ min (n + 1) bound
once_at bound n = grind (arith, nat_tests)

below_once : (bound : ℕ) (xs : List ℕ) → ((x : ℕ) → times x xs ≡ once_below bound x) → (n : ℕ) → below n xs ≡ min n bound
below_once bound xs h zero = let none = below_none xs in omega arith
below_once bound xs h (suc n) = grind (arith, common_steps, below_once bound xs h n, below_next, once_at)

pub length_once : (bound : ℕ) (xs : List ℕ) → ((x : ℕ) → times x xs ≡ once_below bound x) → length xs ≡ bound
length_once bound xs h = let n : ℕ = sum xs + 1 + bound in let all = below_all n xs (omega arith) in let once = below_once bound xs h n in grind (arith, common_steps)

-- the pieces that the seats claimed, one after another
abbrev all_claimed : List SeatState → List ℕ
all_claimed [] = []
all_claimed (Spent ∷ seats) = all_claimed seats
all_claimed (Holding r ∷ seats) = r.claimed ++ all_claimed seats

times-all_claimed : (x : ℕ) (seats : List SeatState) → times x (all_claimed seats) ≡ total (λ r. times x r.claimed) seats
times-all_claimed x [] = refl
times-all_claimed x (Spent ∷ seats) = let rest = times-all_claimed x seats in omega arith
times-all_claimed x (Holding r ∷ seats) = let rest = times-all_claimed x seats in let both = sum_by-append (λ y. cond (y == x) 1 0) r.claimed (all_claimed seats) in omega arith

length-all_claimed : (seats : List SeatState) → length (all_claimed seats) ≡ total (λ r. length r.claimed) seats
length-all_claimed [] = refl
length-all_claimed (Spent ∷ seats) = let rest = length-all_claimed seats in omega arith
length-all_claimed (Holding r ∷ seats) = let rest = length-all_claimed seats in let both = length-append r.claimed (all_claimed seats) in omega arith

-- the seats claimed as many pieces as there are numbers below the bound
pub total_claimed : (bound : ℕ) (seats : List SeatState) → ((x : ℕ) → total (λ r. times x r.claimed) seats ≡ once_below bound x) → total (λ r. length r.claimed) seats ≡ bound
total_claimed bound seats h = sym (length-all_claimed seats) ∙ length_once bound (all_claimed seats) (λ x. times-all_claimed x seats ∙ h x)
