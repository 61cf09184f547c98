use Rattle.std.proofs.Common.{sym, ◌∙◌, arith}
use Rattle.mine_conditional.proofs.WordPathLemmas.{all_fill, one_fails}
use Rattle.mine_conditional.proofs.word_paths.are_fronts.Goals as goal

pub returns-then-not-is_front : goal.returns-then-not-is_front
returns-then-not-is_front c = sym (one_fails c.args.count c.args.words.now c.loop-word.word-index c.loop-word-test.true (sym c.is_front.ensures ∙ c.if-not-is_front.true))

pub returns : goal.returns
returns c = sym (all_fill c.args.count c.args.words.now (λ k here. c.loop-word.invariant k (omega (arith, here, c.loop-word-test.false))))
