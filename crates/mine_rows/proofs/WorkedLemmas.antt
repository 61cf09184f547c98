-- Worked rows.
use Rattle.std.proofs.Common.{◌≡◌, ℕ, zero, suc, ◌*◌, Bool, true, [], ◌∷◌, refl, arith}
use Rattle.std.specs.Prelude.{bit_and, count_ones, replicate}
use Rattle.std.proofs.lemmas.Simd.{ones-mask_l}
use Rattle.basket_sets.specs.Itemset.{IsRising}
use Rattle.basket_sets.proofs.theory.Rising.{rising-rises}
use Rattle.mine_rows.specs.Bits.{shared_bits}

pub ones_shared : (count : ℕ) → shared_bits (replicate count 18446744073709551615) (replicate count 18446744073709551615) ≡ count * 64
ones_shared zero = refl
ones_shared (suc count) =
    let one : count_ones (bit_and 18446744073709551615 18446744073709551615) ≡ 64 = ones-mask_l (λ (b : Bool). b) (replicate 64 true) in
    let rest = ones_shared count in omega (arith, one, rest)

pub all_rise : IsRising (0 ∷ 1 ∷ 2 ∷ [])
all_rise = rising-rises (0 ∷ 1 ∷ 2 ∷ [])

pub ends_rise : IsRising (0 ∷ 2 ∷ [])
ends_rise = rising-rises (0 ∷ 2 ∷ [])
