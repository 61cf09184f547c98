use Rattle.std.proofs.Common.{arith}
use Rattle.mine_supports.specs.BlockCounts.{numbered}
use Rattle.mine_supports.proofs.SumLemmas.{tids_light}
use Rattle.mine_supports.proofs.TidLemmas.{tids_at}
use Rattle.mine_supports.proofs.block.Block.put_sums.Goals as goal

pub add_part-requires-clause-light : goal.add_part-requires-clause-light
add_part-requires-clause-light c item within =
    let set = c.requires.tids in
    let all = tids_light (numbered c.args.self.now) set.0 c.args.tids.now c.loop-part.part-index (tids_at 0 0 0) set.1 c.loop-part-test.true in
    let now = c.loop-part.invariant.light item within in
    omega (arith, all, now, c.args.self.now.light)
