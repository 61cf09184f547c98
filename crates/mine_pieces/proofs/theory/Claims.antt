-- The pieces of a seat rise, so a number above them is bounded by the number of pieces.
use Rattle.std.proofs.Common.{◌≡◌, ℕ, ◌+◌, ◌<◌, ◌≤◌, max, List, [], ◌∷◌, ◌++◌, arith}
use Rattle.std.specs.Prelude.{All}
use Rattle.std.proofs.lemmas.List.Elements.{All-head, All-tail}

-- the least number above all of a list
abbrev pub after : List ℕ → ℕ
after [] = 0
after (x ∷ xs) = max (x + 1) (after xs)

pub after-le : (xs : List ℕ) (p : ℕ) → All (λ x. x < p) xs → after xs ≤ p
after-le [] p below = omega arith
after-le (x ∷ xs) p below =
    let first = All-head (λ y. y < p) x xs below in let rest = after-le xs p (All-tail (λ y. y < p) x xs below) in omega arith

pub after_push : (xs : List ℕ) (p : ℕ) → All (λ x. x < p) xs → after (xs ++ p ∷ []) ≡ p + 1
after_push [] p below = omega arith
after_push (x ∷ xs) p below =
    let first = All-head (λ y. y < p) x xs below in let rest = after_push xs p (All-tail (λ y. y < p) x xs below) in omega arith
