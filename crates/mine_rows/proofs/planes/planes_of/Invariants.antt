use Rattle.std.proofs.Common.{◌≡◌, filter, map}
use Rattle.std.specs.Prelude.{All}
use Rattle.std.specs.List.{list_any, range_with_len}
use Rattle.mine_rows.specs.Planes.{IsPlane, has_bit}
use Rattle.mine_rows.proofs.planes.planes_of.Given as goal

abbrev pub invariant-loop-bit : goal.invariant-loop-bit
invariant-loop-bit l = record {
  bits : map (λ plane. plane.bit) l.planes.items ≡ filter (λ bit. list_any (has_bit bit) l.weights) (range_with_len 0 l.bit);
  words : All (IsPlane l.weights) l.planes.items;
}
