-- What holds of results.
use Rattle.std.proofs.Common.{◌≡◌, ◌≢◌, ◌≤◌, ℕ, false, length, arith}
use Rattle.std.proofs.lemmas.Grind.{common_steps}
use Rattle.std.specs.Prelude.{OnOk, Result, List}
use Rattle.basket_sets.specs.declared.minimum.Minimum.{Minimum}
use Rattle.basket_sets.specs.declared.weighted.Weighted.{Weighted}
use Rattle.basket_sets.specs.Frequent.{frequent_of}
use Rattle.basket_plan.specs.declared.plan.Ask.{Ask}
use Rattle.basket_plan.specs.declared.plan.Ask.TheVariants.{Items}
use Rattle.basket_outcome.specs.Outcome.{are_too_many}

-- what holds anyway holds after `Ok`
pub after_any : {T E P : Type 0} (result : Result T E) → P → OnOk result P
after_any h1 h2 = grind (arith, common_steps)

-- frequent sets within the limit are not too many, whatever but items is asked of them
pub few_enough : (ask : Ask) (baskets : List Weighted) (minimum : Minimum) (limit : ℕ) → ask ≢ Items → length (frequent_of baskets minimum) ≤ limit → are_too_many ask baskets minimum limit ≡ false
few_enough h1 h2 h3 h4 h5 h6 = grind (arith, common_steps)
