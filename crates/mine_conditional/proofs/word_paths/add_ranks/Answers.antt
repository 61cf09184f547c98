use Rattle.std.proofs.Common.{arith}
use Rattle.std.specs.Int.{trailing_zeros, w64}
use Rattle.std.proofs.lemmas.Nat.Bits.{bit_at-trailing_zeros}
use Rattle.mine_conditional.proofs.RankSumLemmas.{lowest_below, sums_next}
use Rattle.mine_conditional.proofs.word_paths.add_ranks.Goals as goal

pub overflow_sub-rank-in-loop-rest : goal.overflow_sub-rank-in-loop-rest
overflow_sub-rank-in-loop-rest c =
    let rest = c.loop-rest.rest in
    let bit = bit_at-trailing_zeros w64 rest (omega arith) c.loop-rest.auto.rest-fits.fits in
    let below = lowest_below c.args.count rest c.args.word.now c.args.sums.now c.loop-rest.sums c.requires.count c.loop-rest.invariant (trailing_zeros w64 rest) bit.1 bit.2 in
    omega (arith, below)

pub loop-rest-preserved : goal.loop-rest-preserved
loop-rest-preserved c =
    let rest = c.loop-rest.rest in
    let bit = bit_at-trailing_zeros w64 rest (omega arith) c.loop-rest.auto.rest-fits.fits in
    sums_next c.args.count rest c.args.word.now c.args.sums.now c.loop-rest.sums c.requires.count c.loop-rest.invariant (trailing_zeros w64 rest) bit.1 bit.2 (omega (arith, c.requires.count, c.told-sums))
