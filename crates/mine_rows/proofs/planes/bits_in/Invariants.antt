use Rattle.std.proofs.Common.{◌≡◌, ℕ, take}
use Rattle.std.specs.List.{list_any}
use Rattle.mine_rows.specs.Planes.{has_bit}
use Rattle.mine_rows.proofs.planes.bits_in.Given as goal

abbrev pub invariant-loop-weight : goal.invariant-loop-weight
invariant-loop-weight l = (bit : ℕ) → has_bit bit l.bits ≡ list_any (has_bit bit) (take l.weight-index l.weights)
