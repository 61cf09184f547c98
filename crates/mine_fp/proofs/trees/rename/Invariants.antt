use Rattle.std.proofs.Common.{◌≡◌, ◌++◌, ℕ, drop, map, take}
use Rattle.mine_pairs.specs.Pairs.{named_pair}
use Rattle.mine_fp.proofs.trees.rename.Given as goal

-- the pairs before the index have the items, the others are as they were
abbrev pub invariant-loop-at : goal.invariant-loop-at
invariant-loop-at l = l.pairs ≡ map (named_pair (map (λ (name : ℕ × ℕ). name.0) l.ranks)) (take l.at l.initial.pairs) ++ drop l.at l.initial.pairs
