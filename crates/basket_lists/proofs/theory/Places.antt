-- The indexes of a list that grows.
use Rattle.std.proofs.Common.{◌≡◌, ◌<◌, ℕ, List, [], ◌∷◌, ◌++◌, length, arith}
use Rattle.std.proofs.lemmas.Grind.{common_steps}
use Rattle.basket_lists.specs.CountedSets.{set_at}
use Rattle.basket_sets.specs.declared.counted.Counted.{Counted}

-- the sets of a list stay at their indexes where more are added
pub set_kept : (before more sets : List Counted) (index : ℕ) → index < length before → sets ≡ before ++ more → set_at sets index ≡ set_at before index
set_kept before more sets index here are = grind (arith, common_steps)

-- the set that was added stands after them
pub set_added : (sets new : List Counted) (one : Counted) (index : ℕ) → index ≡ length sets → new ≡ sets ++ one ∷ [] → set_at new index ≡ one.set
set_added sets new one index last adds = grind (arith, common_steps)
