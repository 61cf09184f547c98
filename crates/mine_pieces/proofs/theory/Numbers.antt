-- Numbers one after another, and the numbers of a piece.
use Rattle.std.proofs.Common.{◌≡◌, ◌≤◌, ◌<◌, ◌+◌, ◌-◌, ◌++◌, ℕ, zero, suc, List, [], ◌∷◌, take, drop, refl, ap, ◌∙◌, arith}
use Rattle.std.proofs.lemmas.Grind.{common_steps}
use Rattle.std.specs.Prelude.{slice_range}
use Rattle.std.specs.List.{range_with_len, sum_by}
use Rattle.std.proofs.lemmas.List.{map-append}
use Rattle.std.proofs.lemmas.List.FromFn.{length-range_with_len}
use Rattle.std.proofs.lemmas.List.Sums.{sum_by-append, sum_by_push}
use Rattle.basket_ranks.specs.Shards.{shard_start}
use Rattle.mine_pieces.specs.Pieces.{parts_of}
use Rattle.mine_pieces.specs.WorkerResult.{numbers_of}

-- ---- numbers one after another

pub range_split : (a m n : ℕ) → range_with_len a (m + n) ≡ range_with_len a m ++ range_with_len (a + m) n
range_split a zero n =
    let e : zero + n ≡ n = omega arith in
    let f : a ≡ a + zero = omega arith in ap (range_with_len a) e ∙ ap (λ b. range_with_len b n) f
range_split a (suc m) n =
    let e : suc m + n ≡ suc (m + n) = omega arith in
    let f : (a + 1) + m ≡ a + suc m = omega arith in
    ap (range_with_len a) e ∙ ap (λ l. a ∷ l) (range_split (a + 1) m n ∙ ap (λ b. range_with_len (a + 1) m ++ range_with_len b n) f)

drop_range : (a low n : ℕ) → drop low (range_with_len a (low + n)) ≡ range_with_len (a + low) n
drop_range a zero n =
    let e : zero + n ≡ n = omega arith in
    let f : a ≡ a + zero = omega arith in ap (range_with_len a) e ∙ ap (λ b. range_with_len b n) f
drop_range a (suc low) n =
    let e : suc low + n ≡ suc (low + n) = omega arith in
    let f : (a + 1) + low ≡ a + suc low = omega arith in
    ap (λ k. drop (suc low) (range_with_len a k)) e ∙ drop_range (a + 1) low n ∙ ap (λ b. range_with_len b n) f

take_range : (a n more : ℕ) → take n (range_with_len a (n + more)) ≡ range_with_len a n
take_range a zero more = refl
take_range a (suc n) more =
    let e : suc n + more ≡ suc (n + more) = omega arith in
    ap (λ k. take (suc n) (range_with_len a k)) e ∙ ap (λ l. a ∷ l) (take_range (a + 1) n more)

slice_of_range : (low high n : ℕ) → low ≤ high → high ≤ n → slice_range (range_with_len 0 n) low high ≡ range_with_len low (high - low)
slice_of_range low high n rises within = grind (arith, common_steps, drop_range 0 low (n - low), take_range (0 + low) (high - low) (n - high))

-- the sum up to the next number
pub sum_next : (f : ℕ → ℕ) (start number : ℕ) → start ≤ number → sum_by f (range_with_len start ((number + 1) - start)) ≡ sum_by f (range_with_len start (number - start)) + f number
sum_next f start number low = grind (arith, common_steps, range_split, sum_by_push)

pub sum_more : (f : ℕ → ℕ) (start count all : ℕ) → count ≤ all → sum_by f (range_with_len start count) ≤ sum_by f (range_with_len start all)
sum_more f start count all le =
    let e : all ≡ count + (all - count) = omega arith in
    let s = ap (λ n. sum_by f (range_with_len start n)) e in
    let t = ap (sum_by f) (range_split start count (all - count)) in
    let u = sum_by-append f (range_with_len start count) (range_with_len (start + count) (all - count)) in omega (arith, s, t, u)

-- the sum up to the next number is no more than the sum of all
pub sum_fits : (f : ℕ → ℕ) (start number end : ℕ) → start ≤ number → number < end → sum_by f (range_with_len start (number - start)) + f number ≤ sum_by f (range_with_len start (end - start))
sum_fits f start number end low below = grind (arith, common_steps, sum_next f start number low, sum_more f start ((number + 1) - start) (end - start) (omega arith))

-- the next value comes with the next number
pub numbers_next : {X : Type 0} (before : List ℕ) (values now : List (ℕ × X)) (start number : ℕ) (value : X) → start ≤ number → now ≡ values ++ (number, value) ∷ []
    → numbers_of values ≡ before ++ range_with_len start (number - start) → numbers_of now ≡ before ++ range_with_len start ((number + 1) - start)
numbers_next before values now start number value low is are = grind (arith, common_steps, map-append, range_split)

-- ---- the numbers of a piece

pub numbers_are : (n pieces piece low high count : ℕ) → count ≡ n → low ≡ shard_start piece pieces count → high ≡ shard_start (piece + 1) pieces count
    → low ≤ high → high ≤ count → parts_of n pieces piece ≡ range_with_len low (high - low)
numbers_are n pieces piece low high count all start end rises within = grind (arith, common_steps, length-range_with_len, slice_of_range)
