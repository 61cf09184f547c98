use Rattle.std.proofs.Common.{◌+◌, drop, get_or, sym, ap, ◌∙◌, [], arith}
use Rattle.std.specs.Int.{w64}
use Rattle.std.proofs.lemmas.Simd.{fold-sum, length-zip2, sum-zip2, sum_fits}
use Rattle.mine_rows.specs.Bits.{shared_in_chunks}
use Rattle.mine_rows.proofs.BitLemmas.{chunks_end, chunks_step, lane_ones, lanes_long, lanes_share}
use Rattle.mine_rows.proofs.bits.shared_by_lanes.Goals as goal

pub loop-at-preserved : goal.loop-at-preserved
loop-at-preserved c =
    let first = c.args.first.now in
    let second = c.args.second.now in
    let i = c.loop-at.at in
    let here = c.loop-at-test.true in
    let x = get_or first i [] in
    let y = get_or second i [] in
    let step = chunks_step first second i c.requires.same here in
    let share = lanes_share x y in
    let wide = c.requires.wide.0 i [] here in
    let other = c.requires.wide.1 i [] (omega (arith, here, c.requires.same)) in
    let long = lanes_long x y (wide ∙ sym other) in
    let same = c.loop-at.invariant.wide ∙ sym (long ∙ wide) in
    record {
      wide = length-zip2 (λ a b. a + b) c.loop-at.lanes (lane_ones x y) same ∙ c.loop-at.invariant.wide;
      counted = ap (λ n. n + shared_in_chunks (drop (i + 1) first) (drop (i + 1) second)) (sum-zip2 c.loop-at.lanes (lane_ones x y) same) ∙ omega (arith, step, share, c.loop-at.invariant.counted);
    }

pub overflow_add-result : goal.overflow_add-result
overflow_add-result c =
    sum_fits w64 0 c.loop-at.lanes (omega (arith, c.loop-at.invariant.counted, c.requires.few))

pub returns : goal.returns
returns c =
    fold-sum 0 c.loop-at.lanes ∙ omega (arith, c.loop-at.invariant.counted, chunks_end c.args.first.now c.args.second.now c.loop-at.at (omega (arith, c.loop-at-test.false)))
