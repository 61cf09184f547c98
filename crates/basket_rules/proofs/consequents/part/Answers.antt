use Rattle.std.proofs.Common.{◌≡◌, ◌∙◌, ◌+◌, ◌/◌, ◌^◌, ap, sym, suc, ℕ, arith}
use Rattle.std.proofs.lemmas.Grind.{common_steps}
use Rattle.std.proofs.Math.Nat.{div-div-eq-div-mul, pow-suc}
use Rattle.std.proofs.lemmas.Bool.{cases_lt}
use Rattle.basket_rules.proofs.SideLemmas.{put_taken, put_left}
use Rattle.basket_rules.proofs.consequents.part.Goals as goal

-- half of what is left of a word is what is left one index on
halved : (bits i : ℕ) → bits / 2 ^ i / 2 ≡ bits / 2 ^ (i + 1)
halved bits i = div-div-eq-div-mul bits (2 ^ i) 2 ∙ ap (λ n. bits / n) (sym (pow-suc 2 i) ∙ ap (λ n. 2 ^ n) (let e : suc i ≡ i + 1 = omega arith in e))

pub loop-item-preserved : goal.loop-item-preserved
loop-item-preserved c = grind (arith, common_steps, halved, cases_lt, put_taken, put_left)
