use Rattle.std.proofs.Common.{◌≡◌, take}
use Rattle.std.specs.List.{sum_by}
use Rattle.mine_rows.specs.Planes.{plane_weight}
use Rattle.mine_rows.proofs.planes.weight_by_planes.Given as goal

abbrev pub invariant-loop-plane : goal.invariant-loop-plane
invariant-loop-plane l = l.weight ≡ sum_by (plane_weight l.words.items) (take l.plane-index l.planes)
