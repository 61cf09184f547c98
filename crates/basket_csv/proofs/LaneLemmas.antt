-- Bytes of a text that are looked at together.
use Rattle.std.proofs.Common.{◌≡◌, ◌≢◌, ℕ, ◌+◌, ◌≤◌, ◌<◌, not, eqb, List, length, map, ap, ◌∙◌, arith}
use Rattle.std.proofs.lemmas.Grind.{common_steps}
use Rattle.std.specs.List.{prefix_len}
use Rattle.std.proofs.lemmas.Simd.{length-chunk, trailing_mask_l}
use lib.Count.{count_trailing_zeros}
use lib.Lanes.{chunk, mask_l}

positive : (n : ℕ) → n ≢ 0 → 0 < n
positive h1 h2 = grind (arith, common_steps)

-- the lowest bit that is set stands for the first of sixteen bytes that is equal to one
pub first_equal : (text : List ℕ) (from byte mask : ℕ) → from + 16 ≤ length text → mask ≡ mask_l (map (λ x. eqb x byte) (chunk from 16 text)) → mask ≢ 0
    → count_trailing_zeros 64 mask ≡ prefix_len (λ x. not (eqb x byte)) (chunk from 16 text)
first_equal text from byte mask room e some =
    ap (count_trailing_zeros 64) e
    ∙ trailing_mask_l (λ x. eqb x byte) 64 (chunk from 16 text) (omega (arith, length-chunk from 16 text room)) (positive (mask_l (map (λ x. eqb x byte) (chunk from 16 text))) (λ z. some (e ∙ z)))
