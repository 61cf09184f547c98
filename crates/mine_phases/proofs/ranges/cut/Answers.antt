use Rattle.std.proofs.Common.{◌≡◌, ◌+◌, ◌++◌, ◌∷◌, [], List, ℕ, length, ap, ◌∙◌, arith}
use Rattle.std.proofs.lemmas.Grind.{common_steps}
use Rattle.std.specs.List.{flat_map, range_with_len}
use Rattle.std.proofs.lemmas.List.{length-append}
use Rattle.std.proofs.lemmas.List.Concat.{flat_map-append}
use Rattle.mine_pairs.specs.declared.rank_range.RankRange.{RankRange}
use Rattle.mine_pairs.specs.Triangle.{ranks_in}
use Rattle.mine_pieces.proofs.theory.Numbers.{range_split}
use Rattle.mine_phases.proofs.ranges.cut.Goals as goal
use Rattle.mine_phases.proofs.ranges.cut.Goals.{then-sum-share+in_ok-push, else-sum-share+else-rank-steps}

range_pushed : (ranges : List RankRange) (range : RankRange) (end : ℕ) → flat_map ranks_in ranges ≡ range_with_len 0 range.first → range.first + range.count ≡ end
    → flat_map ranks_in (ranges ++ range ∷ []) ≡ range_with_len 0 end
range_pushed ranges range end so_far ends = grind (arith, common_steps, flat_map-append, range_split)

pub loop-rank-preserved : goal.loop-rank-preserved
loop-rank-preserved c = grind (arith, common_steps, range_pushed, length-append)

pub returns : goal.returns
returns c =
    let all : c.loop-rank.rank ≡ length c.args.steps.now = omega (arith, c.loop-rank-test.false, c.loop-rank.auto.rank-end) in
    let first = c.loop-rank.invariant.last all ∙ all in
    record { ranges = c.loop-rank.invariant.whole ∙ ap (range_with_len 0) first; few = omega (arith, first, c.loop-rank.invariant.few) }
