use Rattle.std.proofs.Common.{Bool, true, false, [], ◌∷◌, arith}
use Rattle.std.proofs.lemmas.Grind.{common_steps}
use Rattle.std.proofs.lemmas.Simd.{ones-mask_l}
use Rattle.mine_rows.proofs.worked.words_share_bits.Goals as goal

pub returns-clause-two : goal.returns-clause-two
returns-clause-two c = let four = ones-mask_l (λ (b : Bool). b) (false ∷ false ∷ true ∷ []) in let one = ones-mask_l (λ (b : Bool). b) (true ∷ []) in grind (arith, common_steps)
