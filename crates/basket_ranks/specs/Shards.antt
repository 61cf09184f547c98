-- Lists cut into parts of nearly one length.
use Rattle.std.specs.Prelude.{◌≡◌, ◌≤◌, ℕ, ◌+◌, ◌*◌, ◌/◌, List, length, slice_range}
use Rattle.std.specs.List.{flat_map, range_with_len}
use Rattle.basket_sets.specs.declared.weighted.Weighted.{Weighted}

-- where a part starts of a list of n elements that is cut into so many pieces
abbrev pub shard_start : ℕ → ℕ → ℕ → ℕ
shard_start i pieces n = i * n / pieces

-- a part of a list that is cut into so many pieces
abbrev pub shard_of : {X : Type 0} → ℕ → ℕ → List X → List X
shard_of i pieces xs = slice_range xs (shard_start i pieces (length xs)) (shard_start (i + 1) pieces (length xs))

-- the parts of a list of numbers are together the list
abbrev pub ShardsAreAll : Type 0
ShardsAreAll = (pieces : ℕ) (numbers : List ℕ) → 1 ≤ pieces → flat_map (λ i. shard_of i pieces numbers) (range_with_len 0 pieces) ≡ numbers

-- the parts of a list of baskets are together the list
abbrev pub ShardsHaveAllBaskets : Type 0
ShardsHaveAllBaskets = (pieces : ℕ) (baskets : List Weighted) → 1 ≤ pieces → flat_map (λ i. shard_of i pieces baskets) (range_with_len 0 pieces) ≡ baskets
