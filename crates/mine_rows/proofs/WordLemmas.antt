-- Words of the tids that pass a test.
use Rattle.std.proofs.Common.{◌≡◌, ◌≢◌, ℕ, zero, suc, ◌+◌, ◌*◌, ◌<◌, ◌≤◌, ◌^◌, Bool, true, false, ◌&&◌, List, [], ◌∷◌, ◌++◌, length, get_or, map, cond, eqb, refl, sym, ap, ◌∙◌, arith, length-append}
use Rattle.std.proofs.lemmas.Grind.{common_steps}
use Rattle.std.specs.Prelude.{bit_and, bit_or, count_ones, replicate}
use Rattle.std.specs.Int.Bits.{or_zero_r}
use Rattle.std.specs.List.{filter, range_with_len}
use Rattle.std.specs.Simd.Lanes.{mask_l, zip2}
use Rattle.std.proofs.Math.ListN.{set}
use Rattle.std.proofs.lemmas.Nat.{and_block, or_block, pow-add}
use Rattle.std.proofs.lemmas.Simd.{bit_mask_l, ones-mask_l}
use Rattle.std.proofs.lemmas.List.Elements.{filter-append}
use Rattle.std.proofs.lemmas.List.FromFn.{get_or-map-range_with_len}
use Rattle.std.proofs.lemmas.List.Sums.{length-filter}
use Rattle.mine_rows.specs.Bits.{shared_bits, word_at, words_from}
use Rattle.mine_rows.specs.Planes.{has_bit}

-- the word of n tids from one on
abbrev word : (ℕ → Bool) → ℕ → ℕ → ℕ
word p a n = mask_l (map p (range_with_len a n))

within_same : (x y : ℕ → Bool) (b m : ℕ) → ((t : ℕ) → b ≤ t → t < b + m → x t ≡ y t) → word x b m ≡ word y b m
within_same x y b zero alike = refl
within_same x y b (suc m) alike =
    ap (λ c. cond c 1 0 + 2 * word x (b + 1) m) (alike b (omega arith) (omega arith))
    ∙ ap (λ k. cond (y b) 1 0 + 2 * k) (within_same x y (b + 1) m (λ t low high. alike t (omega arith) (omega arith)))

word_none : (a n : ℕ) → word (λ t. false) a n ≡ 0
word_none a zero = refl
word_none a (suc n) = ap (λ m. 0 + 2 * m) (word_none (a + 1) n)

bit_below : (b : Bool) → cond b 1 0 < 2 ^ 1
bit_below h1 = grind (arith, common_steps)

-- a word with one more tid
word_set : (p q : ℕ → Bool) (a n j : ℕ) → j < n → q (a + j) ≡ true → ((t : ℕ) → t ≢ a + j → q t ≡ p t) → bit_or (word p a n) (2 ^ j) ≡ word q a n
word_set p q a zero j below one same = absurd (omega arith)
word_set p q a (suc n) zero below one same =
    let rest : word p (a + 1) n ≡ word q (a + 1) n = within_same p q (a + 1) n (λ t low high. sym (same t (λ e. absurd (omega arith)))) in
    let P : ℕ = word p (a + 1) n in
    let left : cond (p a) 1 0 + 2 * P ≡ P * 2 ^ 1 + cond (p a) 1 0 = omega arith in
    let joined = or_block 1 P 0 (cond (p a) 1 0) 1 (bit_below (p a)) (omega arith) in
    let set_low : q a ≡ true = ap q (omega arith) ∙ one in
    ap (λ x. bit_or x 1) left ∙ joined ∙ ap (λ x. x * 2 ^ 1 + bit_or (cond (p a) 1 0) 1) (or_zero_r P) ∙ ap (λ x. P * 2 ^ 1 + x) (low_one (p a))
    ∙ ap (λ x. x * 2 ^ 1 + 1) rest ∙ turned (word q (a + 1) n) ∙ ap (λ b. cond b 1 0 + 2 * word q (a + 1) n) (sym set_low)
  where
    low_one : (b : Bool) → bit_or (cond b 1 0) 1 ≡ 1
    low_one true = refl
    low_one false = refl

    turned : (x : ℕ) → x * 2 ^ 1 + 1 ≡ 1 + 2 * x
    turned x = omega arith
word_set p q a (suc n) (suc j) below one same =
    let rest = word_set p q (a + 1) n j (omega arith) (ap q (omega arith) ∙ one) (λ t differ. same t (λ e. differ (omega arith))) in
    let P : ℕ = word p (a + 1) n in
    let left : cond (p a) 1 0 + 2 * P ≡ P * 2 ^ 1 + cond (p a) 1 0 = omega arith in
    let power : 2 ^ suc j ≡ 2 ^ j * 2 ^ 1 + 0 = half j in
    let joined = or_block 1 P (2 ^ j) (cond (p a) 1 0) 0 (bit_below (p a)) (omega arith) in
    let low : q a ≡ p a = same a (λ e. absurd (omega arith)) in
    ap (λ x. bit_or x (2 ^ suc j)) left ∙ ap (bit_or (P * 2 ^ 1 + cond (p a) 1 0)) power ∙ joined
    ∙ ap (λ x. bit_or P (2 ^ j) * 2 ^ 1 + x) (or_zero_r (cond (p a) 1 0)) ∙ ap (λ x. x * 2 ^ 1 + cond (p a) 1 0) rest
    ∙ turned (word q (a + 1) n) (cond (p a) 1 0) ∙ ap (λ b. cond b 1 0 + 2 * word q (a + 1) n) (sym low)
  where
    half : (k : ℕ) → 2 ^ suc k ≡ 2 ^ k * 2 ^ 1 + 0
    half k = let e : suc k ≡ k + 1 = omega arith in let f = pow-add 2 k 1 in ap (λ m. 2 ^ m) e ∙ f ∙ omega arith

    turned : (x c : ℕ) → x * 2 ^ 1 + c ≡ c + 2 * x
    turned x c = omega arith

-- the ones that two words share
word_and : (p q : ℕ → Bool) (l : List ℕ) → bit_and (mask_l (map p l)) (mask_l (map q l)) ≡ mask_l (map (λ t. p t && q t) l)
word_and p q [] = refl
word_and p q (x ∷ l) =
    let P : ℕ = mask_l (map p l) in
    let Q : ℕ = mask_l (map q l) in
    let left : cond (p x) 1 0 + 2 * P ≡ P * 2 ^ 1 + cond (p x) 1 0 = omega arith in
    let right : cond (q x) 1 0 + 2 * Q ≡ Q * 2 ^ 1 + cond (q x) 1 0 = omega arith in
    ap (λ y. bit_and y (cond (q x) 1 0 + 2 * Q)) left ∙ ap (bit_and (P * 2 ^ 1 + cond (p x) 1 0)) right
    ∙ and_block 1 P Q (cond (p x) 1 0) (cond (q x) 1 0) (bit_below (p x)) (bit_below (q x))
    ∙ ap (λ y. y * 2 ^ 1 + bit_and (cond (p x) 1 0) (cond (q x) 1 0)) (word_and p q l)
    ∙ ap (λ y. mask_l (map (λ t. p t && q t) l) * 2 ^ 1 + y) (low (p x) (q x)) ∙ turned (mask_l (map (λ t. p t && q t) l)) (cond (p x && q x) 1 0)
  where
    low : (b c : Bool) → bit_and (cond b 1 0) (cond c 1 0) ≡ cond (b && c) 1 0
    low true true = refl
    low true false = refl
    low false true = refl
    low false false = refl

    turned : (y c : ℕ) → y * 2 ^ 1 + c ≡ c + 2 * y
    turned y c = omega arith

-- ---- words of 64 tids

at_none : (a : ℕ) → word_at (λ t. false) a ≡ 0
unfolding word_at
at_none a = word_none a 64

at_set : (p q : ℕ → Bool) (a j : ℕ) → j < 64 → q (a + j) ≡ true → ((t : ℕ) → t ≢ a + j → q t ≡ p t) → bit_or (word_at p a) (2 ^ j) ≡ word_at q a
unfolding word_at
at_set p q a j below one same = word_set p q a 64 j below one same

at_and : (p q : ℕ → Bool) (a : ℕ) → bit_and (word_at p a) (word_at q a) ≡ word_at (λ t. p t && q t) a
unfolding word_at
at_and p q a = word_and p q (range_with_len a 64)

at_ones : (p : ℕ → Bool) (a : ℕ) → count_ones (word_at p a) ≡ length (filter p (range_with_len a 64))
unfolding word_at
at_ones p a = ones-mask_l p (range_with_len a 64) ∙ sym (length-filter p (range_with_len a 64))

at_within : (x y : ℕ → Bool) (b : ℕ) → ((t : ℕ) → b ≤ t → t < b + 64 → x t ≡ y t) → word_at x b ≡ word_at y b
unfolding word_at
at_within x y b alike = within_same x y b 64 alike

pub words_same : (p q : ℕ → Bool) (a n : ℕ) → ((t : ℕ) → a ≤ t → p t ≡ q t) → words_from p a n ≡ words_from q a n
words_same p q a zero same = refl
words_same p q a (suc n) same =
    ap (λ w. w ∷ words_from p (a + 64) n) (at_within p q a (λ t low high. same t low)) ∙ ap (λ l. word_at q a ∷ l) (words_same p q (a + 64) n (λ t low. same t (omega arith)))

pub words_none : (a n : ℕ) → words_from (λ t. false) a n ≡ replicate n 0
words_none a zero = refl
words_none a (suc n) = ap (λ w. w ∷ words_from (λ t. false) (a + 64) n) (at_none a) ∙ ap (λ l. 0 ∷ l) (words_none (a + 64) n)

pub length-words : (p : ℕ → Bool) (a n : ℕ) → length (words_from p a n) ≡ n
length-words p a zero = refl
length-words p a (suc n) = ap suc (length-words p (a + 64) n)

-- one more tid
pub words_set : (p q : ℕ → Bool) (a n i j : ℕ) → i < n → j < 64 → q (a + (i * 64 + j)) ≡ true → ((t : ℕ) → t ≢ a + (i * 64 + j) → q t ≡ p t)
    → set (words_from p a n) i (bit_or (get_or (words_from p a n) i 0) (2 ^ j)) ≡ words_from q a n
words_set p q a zero i j here below one same = absurd (omega arith)
words_set p q a (suc n) zero j here below one same =
    ap (λ w. w ∷ words_from p (a + 64) n) (at_set p q a j below (ap q (omega arith) ∙ one) (λ t differ. same t (λ e. differ (omega arith))))
    ∙ ap (λ l. word_at q a ∷ l) (words_same p q (a + 64) n (λ t low. sym (same t (λ e. absurd (omega arith)))))
words_set p q a (suc n) (suc i) j here below one same =
    let e : (a + 64) + (i * 64 + j) ≡ a + (suc i * 64 + j) = omega arith in
    ap (λ l. word_at p a ∷ l) (words_set p q (a + 64) n i j (omega arith) below (ap q e ∙ one) (λ t differ. same t (λ f. differ (f ∙ sym e))))
    ∙ ap (λ w. w ∷ words_from q (a + 64) n) (at_within p q a (λ t low high. sym (same t (λ f. absurd (omega arith)))))

-- what two rows share
pub words_and : (p q : ℕ → Bool) (a n : ℕ) → zip2 bit_and (words_from p a n) (words_from q a n) ≡ words_from (λ t. p t && q t) a n
words_and p q a zero = refl
words_and p q a (suc n) = grind (arith, common_steps, words_and p q (a + 64) n, at_and)

range-append : (a m k : ℕ) → range_with_len a (m + k) ≡ range_with_len a m ++ range_with_len (a + m) k
range-append a zero k = let e : 0 + k ≡ k = omega arith in let f : a ≡ a + 0 = omega arith in ap (range_with_len a) e ∙ ap (λ b. range_with_len b k) f
range-append a (suc m) k =
    let e : suc m + k ≡ suc (m + k) = omega arith in
    let f : (a + 1) + m ≡ a + suc m = omega arith in
    ap (range_with_len a) e ∙ ap (λ l. a ∷ l) (range-append (a + 1) m k ∙ ap (λ b. range_with_len (a + 1) m ++ range_with_len b k) f)

pub words_share : (p q : ℕ → Bool) (a n : ℕ) → shared_bits (words_from p a n) (words_from q a n) ≡ length (filter (λ t. p t && q t) (range_with_len a (n * 64)))
words_share p q a zero = refl
words_share p q a (suc n) =
    let both : ℕ → Bool = λ t. p t && q t in
    let e : suc n * 64 ≡ 64 + n * 64 = omega arith in
    let one = ap count_ones (at_and p q a) ∙ at_ones both a in
    let rest = words_share p q (a + 64) n in
    let all = ap (filter both) (ap (range_with_len a) e ∙ range-append a 64 (n * 64)) ∙ filter-append both (range_with_len a 64) (range_with_len (a + 64) (n * 64)) in
    ap (λ m. m + shared_bits (words_from p (a + 64) n) (words_from q (a + 64) n)) one
    ∙ ap (λ m. length (filter both (range_with_len a 64)) + m) rest
    ∙ sym (ap length all ∙ length-append (filter both (range_with_len a 64)) (filter both (range_with_len (a + 64) (n * 64))))

-- ---- the bits of words

one_is : (b : Bool) → eqb (cond b 1 0) 1 ≡ b
one_is h1 = grind (arith, common_steps)

at_bit : (p : ℕ → Bool) (a j : ℕ) → j < 64 → has_bit j (word_at p a) ≡ p (a + j)
unfolding word_at
at_bit p a j below =
    ap (λ n. eqb n 1) (bit_mask_l (map p (range_with_len a 64)) j) ∙ one_is (get_or (map p (range_with_len a 64)) j false)
    ∙ get_or-map-range_with_len p a 64 j (a + j) false below refl

-- the bit of a tid is one where the tid passes the test
pub words_bit : (p : ℕ → Bool) (a n i j : ℕ) → i < n → j < 64 → has_bit j (get_or (words_from p a n) i 0) ≡ p (a + (i * 64 + j))
words_bit p a zero i j here below = absurd (omega arith)
words_bit p a (suc n) zero j here below = grind (arith, common_steps, at_bit)
words_bit p a (suc n) (suc i) j here below = grind (arith, common_steps, words_bit p (a + 64) n i j (omega arith) below)
