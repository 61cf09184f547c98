-- A fraction whose parts are divided by their greatest common divisor is in lowest terms.
use Rattle.std.proofs.Common.{◌≡◌, ℕ, ◌*◌, ◌/◌, ◌%◌, ◌≤◌, ◌<◌, cond, eqb, ◌&&◌, sym, ap, ◌∙◌, subst, inl, inr, arith, zero, suc}
use Rattle.std.specs.Int.{IsGcd, ◌∣◌}
use Rattle.std.proofs.lemmas.Bool.{cases_Bool, and_parts, and_from, eq-eqb, eqb-true, cases_lt}
use Rattle.std.proofs.lemmas.Nat.Gcd.{le_of_dvd, dvd_of_mod-eq-zero, mod-eq-zero_of_dvd, le_from_IsGcd}
use Rattle.std.proofs.Math.Nat.{pos_of_dvd_of_pos, mul-dvd-mul_left, «mul-div_cancel'»}
use Rattle.basket_core.specs.Fraction.{common_divisor_up_to, common_divisor, IsLowest}

up_to : (most a b g : ℕ) → IsGcd a b g → 0 < g → g ≤ most → common_divisor_up_to most a b ≡ g
up_to zero a b g is some le = absurd (omega arith)
up_to (suc most) a b g is some le = elim (cases_Bool (eqb (a % suc most) 0 && eqb (b % suc most) 0)) [
  | inl e ↦ let p = and_parts (eqb (a % suc most) 0) (eqb (b % suc most) 0) e in
      let first : suc most ∣ a = dvd_of_mod-eq-zero (suc most) (eqb-true (a % suc most) 0 p.0) in
      let second : suc most ∣ b = dvd_of_mod-eq-zero (suc most) (eqb-true (b % suc most) 0 p.1) in
      let high = le_from_IsGcd a b g (suc most) is some first second in
      let same : suc most ≡ g = omega arith in
      ap (λ t. cond t (suc most) (common_divisor_up_to most a b)) e ∙ same
  | inr e ↦ elim (cases_lt g (suc most)) [
    | inl less ↦ ap (λ t. cond t (suc most) (common_divisor_up_to most a b)) e ∙ up_to most a b g is some (omega arith)
    | inr more ↦ (let same : g ≡ suc most = omega arith in
        let first = eq-eqb (a % suc most) 0 (ap (λ d. a % d) (sym same) ∙ mod-eq-zero_of_dvd g is.0) in
        let second = eq-eqb (b % suc most) 0 (ap (λ d. b % d) (sym same) ∙ mod-eq-zero_of_dvd g is.1) in
        let both = and_from (eqb (a % suc most) 0) (eqb (b % suc most) 0) first second in
        cc)
  ]
]

-- a greatest common divisor is the greatest number that divides both
pub common_divisor_is : (a b g : ℕ) → 1 ≤ b → IsGcd a b g → common_divisor a b ≡ g
common_divisor_is a b g some is = up_to b a b g is (pos_of_dvd_of_pos is.1 some) (le_of_dvd some is.1)

pub same_ratio : (n d g : ℕ) → 1 ≤ d → IsGcd n d g → (n / g) * d ≡ (d / g) * n
same_ratio n d g some is =
    let first : g * (n / g) ≡ n = «mul-div_cancel'» g is.0 in
    let second : g * (d / g) ≡ d = «mul-div_cancel'» g is.1 in
    ap (λ k. (n / g) * k) (sym second) ∙ swapped (n / g) (d / g) g ∙ ap (λ k. (d / g) * k) first
  where
    swapped : (k m g : ℕ) → k * (g * m) ≡ m * (g * k)
    swapped k m g = grind arith

too_far : (g k : ℕ) → 0 < g → g * suc (suc k) ≤ g → ⊥
too_far g k pos le = grind arith

-- a divisor of a number above 0 is above 0
pub above_zero : (a b g : ℕ) → 1 ≤ b → IsGcd a b g → 0 < g
above_zero a b g some is = pos_of_dvd_of_pos is.1 some

pub is_lowest : (n d g : ℕ) → 1 ≤ d → IsGcd n d g → IsLowest (record { numerator = n / g; denominator = d / g })
is_lowest n d g some is = record { some = at_least (d / g) above; lowest = λ k p q. below k (le_of_dvd positive (is.2 (g * k) (into k n is.0 p) (into k d is.1 q))) }
  where
    positive : 0 < g
    positive = pos_of_dvd_of_pos is.1 some

    above : g * (d / g) ≡ d
    above = «mul-div_cancel'» g is.1

    at_least : (m : ℕ) → g * m ≡ d → 1 ≤ m
    at_least zero e = absurd (omega (arith, e))
    at_least (suc m) e = omega arith

    into : (k m : ℕ) → g ∣ m → k ∣ (m / g) → g * k ∣ m
    into k m h p = subst (λ x. g * k ∣ x) («mul-div_cancel'» g h) (mul-dvd-mul_left k g p)

    below : (k : ℕ) → g * k ≤ g → k ≤ 1
    below zero le = omega arith
    below (suc zero) le = omega arith
    below (suc (suc k)) le = absurd (too_far g k positive le)
