use Rattle.std.proofs.Common.{◌≡◌, length}
use Rattle.std.specs.Prelude.{slice_range}
use Rattle.mine_supports.specs.Extensions.{sets_of}
use Rattle.mine_supports.proofs.extensions.Extensions.count_in.Given as goal

abbrev pub invariant-loop-index : goal.invariant-loop-index
invariant-loop-index l = l.count ≡ length (sets_of (slice_range l.self l.fn.range.start l.index))
