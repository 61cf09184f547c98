use Rattle.std.proofs.Common.{◌∙◌, arith}
use Rattle.mine_pairs.specs.Pairs.{pairs_of}
use Rattle.mine_pairs.proofs.theory.PairSums.{lists_pushed}
use Rattle.mine_pairs.proofs.pairs.pairs_by_runs.Goals as goal

pub loop-rank-preserved : goal.loop-rank-preserved
loop-rank-preserved c =
    let rank = c.loop-rank.rank in
    record {
      sums = c.in_ok-pairs.ensures.sums ∙ c.loop-rank.invariant.sums;
      lists = lists_pushed (pairs_of c.args.runs.now.baskets c.args.least) 0 rank rank c.loop-rank.lists.items _ _ c.loop-rank.invariant.lists c.in_ok-push.ensures.items (omega arith) c.in_ok-pairs.ensures.pairs;
    }
