use Rattle.std.proofs.Common.{◌∙◌}
use Rattle.mine_supports.specs.BlockCounts.{numbered}
use Rattle.mine_supports.proofs.SumLemmas.{row_of_used}
use Rattle.mine_supports.proofs.TidLemmas.{weighs_support}
use Rattle.mine_supports.proofs.block.Block.sum.Goals as goal

pub returns-in-Some : goal.returns-in-Some
returns-in-Some c set are =
    let block = c.args.self.now in
    let row = row_of_used block.used.now (numbered block) block.rows c.args.item block.rows_of c.requires.used in
    let found = c.in-Some.ensures.lookup.3 in
    found.1 0 ∙ c.requires.sums.each c.args.item row.0 found.0 row.1 ∙ weighs_support (numbered block) set c.args.item row.0 c.args.tids.now are row.1
