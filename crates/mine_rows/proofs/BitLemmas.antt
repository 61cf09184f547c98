-- Words of bits.
use Rattle.std.proofs.Common.{◌≡◌, ℕ, zero, suc, ◌+◌, ◌*◌, ◌/◌, ◌<◌, ◌≤◌, ◌^◌, List, [], ◌∷◌, ◌++◌, take, drop, length, get_or, map, refl, sym, ap, ◌∙◌, arith}
use Rattle.std.proofs.lemmas.Grind.{common_steps}
use Rattle.std.specs.Prelude.{bit_and, count_ones}
use Rattle.std.specs.Prelude.{All}
use Rattle.std.specs.List.{AllByRecursion}
use Rattle.std.specs.Simd.{first_chunks}
use Rattle.std.specs.Simd.Lanes.{sum_l, zip2}
use Rattle.std.proofs.Common.{length-drop}
use Rattle.std.proofs.lemmas.List.{drop-drop, drop_more, length-take-le, take-append-drop}
use Rattle.std.proofs.lemmas.List.Elements.{All-from_recursion, All-head, All-tail}
use Rattle.std.proofs.lemmas.Nat.{and_le_l, and_le_r, ones-le}
use Rattle.mine_rows.specs.Bits.{shared_bits, shared_in_chunks}

-- ---- what words share

pub shared_most : (xs ys : List ℕ) → ((k : ℕ) → get_or xs k 0 < 2 ^ 64) → shared_bits xs ys ≤ length xs * 64
shared_most [] ys fit = omega arith
shared_most (x ∷ xs) [] fit = omega arith
shared_most (x ∷ xs) (y ∷ ys) fit =
    let rest = shared_most xs ys (λ k. fit (suc k)) in
    let first : x < 2 ^ 64 = fit 0 in
    let below = and_le_l x y in
    let ones = ones-le 64 (bit_and x y) (omega arith) in omega (arith, ones)

pub shared-append : (xs ys more others : List ℕ) → length xs ≡ length ys → shared_bits (xs ++ more) (ys ++ others) ≡ shared_bits xs ys + shared_bits more others
shared-append [] [] more others same = omega arith
shared-append [] (y ∷ ys) more others same = absurd (omega arith)
shared-append (x ∷ xs) [] more others same = absurd (omega arith)
shared-append (x ∷ xs) (y ∷ ys) more others same = let rest = shared-append xs ys more others (omega arith) in omega arith

pub shared_step : (xs ys : List ℕ) (i : ℕ) → length xs ≡ length ys → i < length xs
    → shared_bits (drop i xs) (drop i ys) ≡ count_ones (bit_and (get_or xs i 0) (get_or ys i 0)) + shared_bits (drop (i + 1) xs) (drop (i + 1) ys)
shared_step xs ys i same here = ap (λ l. shared_bits l (drop i ys)) (drop_more xs i 0 here) ∙ ap (shared_bits (get_or xs i 0 ∷ drop (i + 1) xs)) (drop_more ys i 0 (omega arith))

shared_none : (xs ys : List ℕ) → All (λ word. word ≡ 0) ys → shared_bits xs ys ≡ 0
shared_none [] ys none = refl
shared_none (x ∷ xs) [] none = refl
shared_none (x ∷ xs) (y ∷ ys) none =
    let rest = shared_none xs ys (All-tail (λ (word : ℕ). word ≡ 0) y ys none) in
    let first = All-head (λ (word : ℕ). word ≡ 0) y ys none in
    let below = and_le_r x y in
    let ones = ones-le 0 (bit_and x y) (omega arith) in omega arith

-- words without ones at the end share nothing
pub shared_front : (n : ℕ) (xs ys : List ℕ) → All (λ word. word ≡ 0) (drop n ys) → shared_bits (take n xs) (take n ys) ≡ shared_bits xs ys
shared_front zero xs ys none = sym (shared_none xs ys none)
shared_front (suc n) [] ys none = refl
shared_front (suc n) (x ∷ xs) [] none = refl
shared_front (suc n) (x ∷ xs) (y ∷ ys) none = ap (λ m. count_ones (bit_and x y) + m) (shared_front n xs ys none)

pub chunks_step : (xs ys : List (List ℕ)) (i : ℕ) → length xs ≡ length ys → i < length xs
    → shared_in_chunks (drop i xs) (drop i ys) ≡ shared_bits (get_or xs i []) (get_or ys i []) + shared_in_chunks (drop (i + 1) xs) (drop (i + 1) ys)
chunks_step xs ys i same here = grind (arith, common_steps)

pub chunks_end : (xs ys : List (List ℕ)) (i : ℕ) → length xs ≤ i → shared_in_chunks (drop i xs) (drop i ys) ≡ 0
chunks_end [] ys zero le = refl
chunks_end [] ys (suc i) le = refl
chunks_end (x ∷ xs) ys zero le = absurd (omega arith)
chunks_end (x ∷ xs) [] (suc i) le = grind (arith, common_steps)
chunks_end (x ∷ xs) (y ∷ ys) (suc i) le = chunks_end xs ys i (omega arith)

pub in_chunks : (k : ℕ) (xs ys : List ℕ) → length xs ≡ length ys → k * 4 ≤ length xs
    → shared_in_chunks (first_chunks 4 k xs) (first_chunks 4 k ys) + shared_bits (drop (k * 4) xs) (drop (k * 4) ys) ≡ shared_bits xs ys
in_chunks zero xs ys same le = omega arith
in_chunks (suc k) xs ys same le =
    let rest = in_chunks k (drop 4 xs) (drop 4 ys) (omega (arith, length-drop 4 xs, length-drop 4 ys)) (omega (arith, length-drop 4 xs)) in
    let halves = shared-append (take 4 xs) (take 4 ys) (drop 4 xs) (drop 4 ys) (length-take-le 4 xs (omega arith) ∙ sym (length-take-le 4 ys (omega arith))) in
    let whole : shared_bits xs ys ≡ shared_bits (take 4 xs) (take 4 ys) + shared_bits (drop 4 xs) (drop 4 ys) =
    ap (λ l. shared_bits l ys) (sym (take-append-drop 4 xs)) ∙ ap (shared_bits (take 4 xs ++ drop 4 xs)) (sym (take-append-drop 4 ys)) ∙ halves in
    let e : suc k * 4 ≡ 4 + k * 4 = omega arith in
    let one : drop (suc k * 4) xs ≡ drop (k * 4) (drop 4 xs) = ap (λ n. drop n xs) e ∙ sym (drop-drop (k * 4) 4 xs) in
    let two : drop (suc k * 4) ys ≡ drop (k * 4) (drop 4 ys) = ap (λ n. drop n ys) e ∙ sym (drop-drop (k * 4) 4 ys) in
    ap (λ l. shared_bits (take 4 xs) (take 4 ys) + shared_in_chunks (first_chunks 4 k (drop 4 xs)) (first_chunks 4 k (drop 4 ys)) + shared_bits l (drop (suc k * 4) ys)) one
    ∙ ap (λ l. shared_bits (take 4 xs) (take 4 ys) + shared_in_chunks (first_chunks 4 k (drop 4 xs)) (first_chunks 4 k (drop 4 ys)) + shared_bits (drop (k * 4) (drop 4 xs)) l) two
    ∙ omega (arith, rest, whole)

-- so the chunks and what is left of them share what the words share
pub parts_share : (xs ys : List ℕ) {fronts others : List (List ℕ)} {backs rests : List ℕ} → length xs ≡ length ys → fronts ≡ first_chunks 4 (length xs / 4) xs → backs ≡ drop (length xs / 4 * 4) xs
    → others ≡ first_chunks 4 (length ys / 4) ys → rests ≡ drop (length ys / 4 * 4) ys → shared_in_chunks fronts others + shared_bits backs rests ≡ shared_bits xs ys
parts_share xs ys same fronts backs others rests = grind (arith, common_steps, in_chunks)

chunks_are : (k : ℕ) (xs : List ℕ) → k * 4 ≤ length xs → AllByRecursion (λ (words : List ℕ). length words ≡ 4) (first_chunks 4 k xs)
chunks_are zero xs le = tt
chunks_are (suc k) xs le = (length-take-le 4 xs (omega arith), chunks_are k (drop 4 xs) (omega (arith, length-drop 4 xs)))

pub chunks_wide : (k : ℕ) (xs : List ℕ) → k * 4 ≤ length xs → All (λ (words : List ℕ). length words ≡ 4) (first_chunks 4 k xs)
chunks_wide k xs le = All-from_recursion (λ (words : List ℕ). length words ≡ 4) (first_chunks 4 k xs) (chunks_are k xs le)

-- ---- lanes

-- the ones of each lane, as lanes count them
abbrev pub lane_ones : List ℕ → List ℕ → List ℕ
lane_ones x y = map (λ n. n) (map count_ones (zip2 bit_and x y))

pub lanes_share : (x y : List ℕ) → sum_l (lane_ones x y) ≡ shared_bits x y
lanes_share [] y = refl
lanes_share (a ∷ x) [] = refl
lanes_share (a ∷ x) (b ∷ y) = ap (λ n. count_ones (bit_and a b) + n) (lanes_share x y)

pub lanes_long : (x y : List ℕ) → length x ≡ length y → length (lane_ones x y) ≡ length x
lanes_long [] y same = refl
lanes_long (a ∷ x) [] same = absurd (omega arith)
lanes_long (a ∷ x) (b ∷ y) same = ap suc (lanes_long x y (omega arith))

pub both_more : (x y : List ℕ) (i : ℕ) → length x ≡ length y → i < length x
    → zip2 bit_and (take (i + 1) x) (take (i + 1) y) ≡ zip2 bit_and (take i x) (take i y) ++ bit_and (get_or x i 0) (get_or y i 0) ∷ []
both_more [] y i same here = absurd (omega arith)
both_more (a ∷ x) [] i same here = absurd (omega arith)
both_more (a ∷ x) (b ∷ y) zero same here = refl
both_more (a ∷ x) (b ∷ y) (suc i) same here =
    let e : suc i + 1 ≡ suc (i + 1) = omega arith in
    ap (λ n. zip2 bit_and (take n (a ∷ x)) (take n (b ∷ y))) e ∙ ap (λ l. bit_and a b ∷ l) (both_more x y i (omega arith) (omega arith))
