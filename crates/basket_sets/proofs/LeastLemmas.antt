-- The least number that meets a share.
use Rattle.std.proofs.Common.{ℕ, ◌+◌, ◌-◌, ◌*◌, ◌/◌, ◌<◌, ◌≤◌, arith}
use Rattle.std.proofs.lemmas.Grind.{common_steps}
use Rattle.basket_sets.specs.Minimum.{IsLeastPart}

pub least_part : (numerator denominator total : ℕ) → 0 < denominator → IsLeastPart (numerator, denominator) total ((numerator * total + (denominator - 1)) / denominator)
least_part numerator denominator total some number = grind (arith, common_steps)
