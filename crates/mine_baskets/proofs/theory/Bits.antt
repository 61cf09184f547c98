-- The ranks that bits have, and numbers without their lowest one.
use Rattle.std.proofs.Common.{◌≡◌, ◌≢◌, ℕ, ◌+◌, ◌-◌, ◌*◌, ◌/◌, ◌%◌, ◌^◌, ◌<◌, ◌||◌, sym, ap, ◌∙◌, eqb, inl, inr, arith, suc}
use Rattle.std.proofs.lemmas.Grind.{common_steps}
use Rattle.std.specs.Prelude.{bit_and, bit_or, max}
use Rattle.std.specs.Int.{bit_at}
use Rattle.std.proofs.Math.Nat.{pow-suc}
use Rattle.std.proofs.lemmas.Bool.{cases_eq, cases_lt, eq-eqb}
use Rattle.std.proofs.lemmas.Nat.{div-add-mod', mod_below, pow_pos}
use Rattle.std.proofs.lemmas.Nat.Bits.{bit_at-lt, bit_at-pow_other, bit_at-pow_same, bit_at-zero, bit_at_above, bit_at_and, bit_at_cat_high, bit_at_cat_low, bit_at_ones_above, bit_at_or, same_from_bits}
use Rattle.mine_baskets.specs.declared.words.TheConstants.{WORD_RANKS}
use Rattle.mine_baskets.specs.Words.{has_rank}
use Rattle.basket_sets.proofs.theory.Tests.{apart_eqb}

one_of_two : (x y : ℕ) → x < 2 → y < 2 → eqb (max x y) 1 ≡ (eqb x 1 || eqb y 1)
one_of_two h1 h2 h3 h4 = grind (arith, common_steps)

pub has_either : (a b rank : ℕ) → has_rank (bit_or a b) rank ≡ (has_rank a rank || has_rank b rank)
has_either a b rank = ap (λ n. eqb n 1) (bit_at_or a b (63 - rank)) ∙ one_of_two (bit_at a (63 - rank)) (bit_at b (63 - rank)) (bit_at-lt a (63 - rank)) (bit_at-lt b (63 - rank))

pub one_rank : (first rank : ℕ) → first < WORD_RANKS → rank < WORD_RANKS → has_rank (2 ^ (63 - first)) rank ≡ eqb first rank
one_rank first rank low within = grind (arith, common_steps, cases_eq, bit_at-pow_same, eq-eqb, bit_at-pow_other, apart_eqb)

-- ---- a number without its lowest one

module _ (n lowest : ℕ) (one : bit_at n lowest ≡ 1) (zeros : (i : ℕ) → i < lowest → bit_at n i ≡ 0) where
  nothing_below : n % 2 ^ lowest ≡ 0
  nothing_below = same_from_bits (n % 2 ^ lowest) 0 (λ i. elim (cases_lt i lowest) [
    | inl less ↦ sym (bit_at_cat_low (n / 2 ^ lowest) lowest (n % 2 ^ lowest) i less) ∙ ap (λ m. bit_at m i) (div-add-mod' n (2 ^ lowest)) ∙ zeros i less ∙ sym (bit_at-zero i)
    | inr more ↦ bit_at_above (n % 2 ^ lowest) lowest i (mod_below n (2 ^ lowest) (pow_pos lowest)) more ∙ sym (bit_at-zero i)
  ])

  abbrev upper : ℕ
  upper = n / 2 ^ lowest / 2

  whole : n ≡ upper * 2 ^ suc lowest + 2 ^ lowest
  whole =
      let odd : n / 2 ^ lowest ≡ upper * 2 + 1 = omega (arith, one) in
      omega (arith, div-add-mod' n (2 ^ lowest), nothing_below, ap (λ q. q * 2 ^ lowest) odd, ap (λ p. upper * p) (pow-suc 2 lowest))

  one_less : n - 1 ≡ upper * 2 ^ suc lowest + (2 ^ lowest - 1)
  one_less = omega (arith, whole, pow_pos lowest)

  -- the lowest bit is gone
  pub without_lowest : bit_at (bit_and n (n - 1)) lowest ≡ 0
  without_lowest = grind (arith, common_steps, pow-suc, pow_pos, one_less, bit_at_cat_low, bit_at_ones_above, bit_at_and)

  -- and the others are as they were
  pub without_lowest_other : (i : ℕ) → i ≢ lowest → bit_at (bit_and n (n - 1)) i ≡ bit_at n i
  without_lowest_other i other = grind (arith, common_steps, cases_lt, bit_at_and, whole, bit_at_cat_high, pow-suc, pow_pos, one_less)
