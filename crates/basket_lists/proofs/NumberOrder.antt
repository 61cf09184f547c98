-- How numbers compare.
use Rattle.std.proofs.Common.{◌≡◌, ℕ, ◌<◌, arith}
use Rattle.std.proofs.lemmas.Grind.{common_steps}
use Rattle.std.specs.declared.cmp.Ordering.TheVariants.{Equal, Greater}
use Rattle.std.specs.Ordering.{nat_cmp}

pub same_numbers : (x : ℕ) → nat_cmp x x ≡ Equal
same_numbers x = grind (arith, common_steps)

pub greater_number : (x y : ℕ) → y < x → nat_cmp x y ≡ Greater
greater_number x y above = grind (arith, common_steps)
