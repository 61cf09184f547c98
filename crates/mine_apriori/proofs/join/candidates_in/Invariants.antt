use Rattle.std.proofs.Common.{◌≡◌, ◌-◌, take}
use Rattle.std.specs.Prelude.{slice_range}
use Rattle.mine_supports.specs.Extensions.{sets_of}
use Rattle.mine_apriori.specs.Join.{joined_groups}
use Rattle.mine_apriori.proofs.join.candidates_in.Given as goal

abbrev pub invariant-loop-index : goal.invariant-loop-index
invariant-loop-index l = l.found ≡ joined_groups (sets_of l.level) (take (l.index - l.fn.range.start) (slice_range l.level l.fn.range.start l.fn.range.end))
