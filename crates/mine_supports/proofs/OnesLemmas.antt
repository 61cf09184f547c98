-- The ones of words.
use Rattle.std.proofs.Common.{◌≡◌, ℕ, zero, suc, ◌+◌, ◌*◌, ◌/◌, ◌%◌, ◌<◌, ◌^◌, sym, ap, ◌∙◌, arith, min, max}
use Rattle.std.proofs.lemmas.Grind.{common_steps}
use Rattle.std.specs.Prelude.{bit_and, bit_or, count_ones}
use Rattle.std.specs.Int.{bit_at}
use Rattle.std.specs.Int.Bits.{or_add_and}
use Rattle.std.proofs.lemmas.Nat.{and_block, or_block, or_lt, ones_cat, and_le_l, and_comm, pow-add, pow_pos}
use Rattle.std.proofs.lemmas.Nat.Bits.{bit_at_and, bit_at_or, bit_at-zero, bit_at-lt, same_from_bits, and_pow}

ones_bit : (n : ℕ) → n < 2 → count_ones n ≡ n
unfolding lib.Count.ones
ones_bit h1 h2 = grind (arith, common_steps)

double : (n : ℕ) → 2 ^ suc n ≡ 2 ^ n * 2
double n = let e : suc n ≡ n + 1 = omega arith in ap (λ m. 2 ^ m) e ∙ pow-add 2 n 1

-- the ones of two words that share none
pub ones_or : (n a b : ℕ) → a < 2 ^ n → b < 2 ^ n → bit_and a b ≡ 0 → count_ones (bit_or a b) ≡ count_ones a + count_ones b
unfolding lib.Count.ones
ones_or zero a b below under none =
    let x : a ≡ 0 = omega arith in let y : b ≡ 0 = omega arith in
    (λ i. count_ones (bit_or (x i) (y i))) ∙ sym (λ i. count_ones (x i) + count_ones (y i))
ones_or (suc n) a b below under none =
    let P : ℕ = a / 2 in let Q : ℕ = b / 2 in let r : ℕ = a % 2 in let s : ℕ = b % 2 in
    let ea : a ≡ P * 2 ^ 1 + r = omega arith in
    let eb : b ≡ Q * 2 ^ 1 + s = omega arith in
    let power = double n in
    let lr : r < 2 ^ 1 = omega arith in let ls : s < 2 ^ 1 = omega arith in
    let ands : bit_and P Q * 2 ^ 1 + bit_and r s ≡ 0 = sym (and_block 1 P Q r s lr ls) ∙ (λ i. bit_and (sym ea i) (sym eb i)) ∙ none in
    let small : bit_or r s < 2 ^ 1 = or_lt 1 r s lr ls in
    let low = or_add_and r s in
    let all : count_ones (bit_or a b) ≡ count_ones (bit_or P Q) + count_ones (bit_or r s) =
    ap count_ones ((λ i. bit_or (ea i) (eb i)) ∙ or_block 1 P Q r s lr ls) ∙ ones_cat 1 (bit_or P Q) (bit_or r s) small in
    let first : count_ones a ≡ count_ones P + count_ones r = ap count_ones ea ∙ ones_cat 1 P r lr in
    let second : count_ones b ≡ count_ones Q + count_ones s = ap count_ones eb ∙ ones_cat 1 Q s ls in
    let high = ones_or n P Q (omega arith) (omega arith) (omega arith) in
    omega (arith, ones_bit r (omega arith), ones_bit s (omega arith), ones_bit (bit_or r s) (omega arith))

max_min : (p q r : ℕ) → min (max p q) r ≡ max (min p r) (min q r)
max_min p q r = omega arith

-- a word shares with two words what it shares with each
and_or : (a b x : ℕ) → bit_and (bit_or a b) x ≡ bit_or (bit_and a x) (bit_and b x)
and_or a b x = same_from_bits (bit_and (bit_or a b) x) (bit_or (bit_and a x) (bit_and b x)) (λ i.
    bit_at_and (bit_or a b) x i ∙ ap (λ m. min m (bit_at x i)) (bit_at_or a b i) ∙ max_min (bit_at a i) (bit_at b i) (bit_at x i)
    ∙ ap (λ m. max m (min (bit_at b i) (bit_at x i))) (sym (bit_at_and a x i)) ∙ ap (max (bit_at (bit_and a x) i)) (sym (bit_at_and b x i)) ∙ sym (bit_at_or (bit_and a x) (bit_and b x) i))

apart : (a b x : ℕ) → bit_and a b ≡ 0 → bit_and (bit_and a x) (bit_and b x) ≡ 0
apart a b x none = same_from_bits (bit_and (bit_and a x) (bit_and b x)) 0 (λ i.
    let both : min (bit_at a i) (bit_at b i) ≡ 0 = sym (bit_at_and a b i) ∙ ap (λ m. bit_at m i) none ∙ bit_at-zero i in
    bit_at_and (bit_and a x) (bit_and b x) i ∙ ap (λ m. min m (bit_at (bit_and b x) i)) (bit_at_and a x i) ∙ ap (min (min (bit_at a i) (bit_at x i))) (bit_at_and b x i)
    ∙ none_of (bit_at a i) (bit_at b i) (bit_at x i) both ∙ sym (bit_at-zero i))
  where
    none_of : (p q r : ℕ) → min p q ≡ 0 → min (min p r) (min q r) ≡ 0
    none_of p q r e = omega arith

below_power : (n : ℕ) → n < 2 ^ n
below_power zero = omega arith
below_power (suc n) = let rest = below_power n in let power = double n in omega arith

-- what a word shares with two words that share none
pub ones_shared : (a b x : ℕ) → bit_and a b ≡ 0 → count_ones (bit_and (bit_or a b) x) ≡ count_ones (bit_and a x) + count_ones (bit_and b x)
ones_shared a b x none = let fits = below_power (a + b) in grind (arith, common_steps, and_or, ones_or, and_le_l, apart)

-- what a word shares with the word of one tid
pub one_shared : (j x : ℕ) → count_ones (bit_and (2 ^ j) x) ≡ bit_at x j
unfolding lib.Count.ones
one_shared j x = ap count_ones (and_comm (2 ^ j) x ∙ and_pow x j) ∙ one (bit_at x j) (bit_at-lt x j)
  where
    one : (b : ℕ) → b < 2 → count_ones (b * 2 ^ j) ≡ b
    one b low =
        let e : b * 2 ^ j ≡ b * 2 ^ j + 0 = omega arith in
        let both : count_ones (b * 2 ^ j) ≡ count_ones b + count_ones 0 = ap count_ones e ∙ ones_cat j b 0 (pow_pos j) in
        omega (arith, both, ones_bit b low, ones_bit 0 (omega arith))
