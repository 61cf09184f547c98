-- Weights of tids.
use Rattle.std.specs.Prelude.{◌≡◌, ◌≤◌, Bool, List, ℕ, All, length, sum}
use Rattle.basket_sets.specs.Database.{MOST_WEIGHT}
use Rattle.mine_rows.specs.Planes.{are_ones}

-- how many tids there are at most
abbrev pub MOST_TIDS : ℕ
MOST_TIDS = 4294967295

-- weights of tids, each at least 1, not too many nor too heavy together, with whether all are 1
pub record KeepsWeights (weights : List ℕ) (ones : Bool) : Type 0 where
  pub few : length weights ≤ MOST_TIDS
  pub some : All (λ weight. 1 ≤ weight) weights
  pub light : sum weights ≤ MOST_WEIGHT
  pub ones_are : ones ≡ are_ones weights
