use Rattle.std.proofs.Common.{◌≡◌, ◌∷◌, map, take}
use Rattle.mine_plain.proofs.subset.each_with_first.Given as goal

abbrev pub invariant-loop-set : goal.invariant-loop-set
invariant-loop-set l = l.more.items ≡ map (λ set. l.first ∷ set) (take l.set-index l.sets)
