-- Numbers of two lists taken place by place.
use Rattle.std.proofs.Common.{◌≡◌, ℕ, zero, suc, ◌+◌, List, [], ◌∷◌, length, replicate, max, refl, ap, sym, arith}
use Rattle.std.specs.Prelude.{slice_index}
use mathlib.Core.Option as maybe
use lib.ListN.{get_elem?}
use Rattle.mine_round.specs.Record.{place_sums, place_maxima}

pub index-replicate : (n c : ℕ) → slice_index (replicate n 0) c ≡ 0
index-replicate zero c = refl
index-replicate (suc n) zero = refl
index-replicate (suc n) (suc c) = index-replicate n c

pub index-place_sums : (xs ys : List ℕ) (c : ℕ) → slice_index (place_sums xs ys) c ≡ slice_index xs c + slice_index ys c
index-place_sums [] ys c = omega arith
index-place_sums (x ∷ xs) [] c = omega arith
index-place_sums (x ∷ xs) (y ∷ ys) zero = refl
index-place_sums (x ∷ xs) (y ∷ ys) (suc c) = index-place_sums xs ys c

pub index-place_maxima : (xs ys : List ℕ) (c : ℕ) → slice_index (place_maxima xs ys) c ≡ max (slice_index xs c) (slice_index ys c)
index-place_maxima [] ys c = omega arith
index-place_maxima (x ∷ xs) [] c = omega arith
index-place_maxima (x ∷ xs) (y ∷ ys) zero = refl
index-place_maxima (x ∷ xs) (y ∷ ys) (suc c) = index-place_maxima xs ys c

pub length-place_sums : (xs ys : List ℕ) (n : ℕ) → length xs ≡ n → length ys ≡ n → length (place_sums xs ys) ≡ n
length-place_sums [] ys n e f = f
length-place_sums (x ∷ xs) [] n e f = e
length-place_sums (x ∷ xs) (y ∷ ys) zero e f = absurd (omega arith)
length-place_sums (x ∷ xs) (y ∷ ys) (suc n) e f = ap suc (length-place_sums xs ys n (omega arith) (omega arith))

pub length-place_maxima : (xs ys : List ℕ) (n : ℕ) → length xs ≡ n → length ys ≡ n → length (place_maxima xs ys) ≡ n
length-place_maxima [] ys n e f = f
length-place_maxima (x ∷ xs) [] n e f = e
length-place_maxima (x ∷ xs) (y ∷ ys) zero e f = absurd (omega arith)
length-place_maxima (x ∷ xs) (y ∷ ys) (suc n) e f = ap suc (length-place_maxima xs ys n (omega arith) (omega arith))

-- a number that stands at a place is the one read there
pub index_found : (xs : List ℕ) (i n : ℕ) → get_elem? xs i ≡ maybe.some n → slice_index xs i ≡ n
index_found [] i n e = absurd (maybe.some-ne-none n (sym e))
index_found (x ∷ xs) zero n e = maybe.some-injective x n e
index_found (x ∷ xs) (suc i) n e = index_found xs i n e
