-- Sums over lists, and over the parts of a list whose elements have one number each.
use Rattle.std.proofs.Common.{◌≡◌, ℕ, ◌+◌, ◌<◌, Bool, List, [], ◌∷◌, cond, eqb, ltb, filter, map, refl, sym, ap, ◌∙◌, arith, zero, suc, zero-add}
use Rattle.std.proofs.lemmas.Grind.{common_steps}
use Rattle.std.specs.List.{All, range_with_len, sum, sum_by}
use Rattle.std.proofs.lemmas.Bool.Decides.{nat_tests}
use Rattle.std.proofs.lemmas.List.Elements.{All-head, All-tail}
use Rattle.std.proofs.lemmas.List.Sums.{sum-map, sum_by-append, sum_by-cons}
use Rattle.std.proofs.lemmas.Simd.{map-map}
use Rattle.basket_sets.proofs.theory.Ranges.{range_more}

pub sum_by-map : {X Y : Type 0} (f : Y → ℕ) (g : X → Y) (xs : List X) → sum_by f (map g xs) ≡ sum_by (λ x. f (g x)) xs
sum_by-map f g xs = sym (sum-map f (map g xs)) ∙ ap sum (map-map f g xs) ∙ sum-map (λ x. f (g x)) xs

module _ {X : Type 0} (measure number : X → ℕ) where
  -- the sum over the elements whose numbers pass a test
  abbrev sum_where : (ℕ → Bool) → List X → ℕ
  sum_where test xs = sum_by measure (filter (λ x. test (number x)) xs)

  one_more : (test : ℕ → Bool) (x : X) (xs : List X) → sum_where test (x ∷ xs) ≡ cond (test (number x)) (measure x) 0 + sum_where test xs
  one_more test x xs = grind (arith, common_steps)

  none : (xs : List X) → sum_where (λ k. ltb k 0) xs ≡ 0
  none [] = refl
  none (x ∷ xs) = grind (arith, common_steps, none xs)

  next : (n : ℕ) (xs : List X) → sum_where (λ k. ltb k n) xs + sum_where (λ k. eqb k n) xs ≡ sum_where (λ k. ltb k (suc n)) xs
  next n [] = refl
  next n (x ∷ xs) = grind (arith, common_steps, next n xs)

  up_to : (n : ℕ) (xs : List X) → sum_by (λ k. sum_where (λ j. eqb j k) xs) (range_with_len 0 n) ≡ sum_where (λ k. ltb k n) xs
  up_to zero xs = sym (none xs)
  up_to (suc n) xs =
      let part : ℕ → ℕ = λ k. sum_where (λ j. eqb j k) xs in
      let last = ap (sum_by part) (range_more 0 n) ∙ sum_by-append part (range_with_len 0 n) ((0 + n) ∷ []) in
      omega (arith, last, sum_by-cons part (0 + n) [], ap part (zero-add n), up_to n xs, next n xs)

  all : (n : ℕ) (xs : List X) → All (λ x. number x < n) xs → sum_where (λ k. ltb k n) xs ≡ sum_by measure xs
  all n [] low = refl
  all n (x ∷ xs) low =
      let low_x = All-head (λ y. number y < n) x xs low in
      let own : cond (ltb (number x) n) (measure x) 0 ≡ measure x = grind (arith, nat_tests) in
      omega (arith, own, one_more (λ k. ltb k n) x xs, sum_by-cons measure x xs, all n xs (All-tail (λ y. number y < n) x xs low))

  -- where all numbers are below a bound, the parts add up to the whole
  pub parts_add_up : (n : ℕ) (xs : List X) → All (λ x. number x < n) xs → sum_by (λ k. sum_by measure (filter (λ x. eqb (number x) k) xs)) (range_with_len 0 n) ≡ sum_by measure xs
  parts_add_up n xs low = up_to n xs ∙ all n xs low
