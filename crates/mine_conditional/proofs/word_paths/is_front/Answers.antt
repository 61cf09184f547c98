use Rattle.std.proofs.Common.{sym, ◌∙◌, arith}
use Rattle.mine_conditional.proofs.WordPathLemmas.{front_fills, gap_fails}
use Rattle.mine_conditional.proofs.word_paths.is_front.Goals as goal

pub returns-then-not-has : goal.returns-then-not-has
returns-then-not-has c =
    sym (gap_fails c.args.count c.args.word.now.bits c.loop-rank.rank c.loop-rank.auto.rank c.loop-rank-test.true (sym c.has.ensures ∙ c.if-has.true) (sym c.has-then-has.ensures ∙ c.if-not-has.true))

pub returns : goal.returns
returns c = sym (front_fills c.args.count c.args.word.now.bits (λ rank some less h. c.loop-rank.invariant rank some (omega (arith, less, c.loop-rank-test.false)) h))
