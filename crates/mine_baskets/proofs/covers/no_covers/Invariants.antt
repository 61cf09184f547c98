use Rattle.std.proofs.Common.{◌≡◌, []}
use Rattle.std.specs.Prelude.{replicate}
use Rattle.mine_baskets.specs.Covers.{covers_in}
use Rattle.mine_baskets.proofs.covers.no_covers.Given as goal

abbrev pub invariant-loop-times : goal.invariant-loop-times
invariant-loop-times l = covers_in l.covers.items ≡ replicate l.times-index []
