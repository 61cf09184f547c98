use Rattle.std.proofs.Common.{◌≢◌, ◌-◌, length, get_or, subst, sym, ap, inl, inr, arith}
use Rattle.std.proofs.lemmas.Bool.{cases_lt}
use Rattle.mine_baskets.specs.Words.{AreInOrder}
use Rattle.mine_baskets.proofs.WordLemmas.{pushed_order}
use Rattle.mine_baskets.proofs.words.add.Goals as goal

pub returns-clause-order : goal.returns-clause-order
returns-clause-order c = λ order end.
    subst AreInOrder (sym c.in_ok-push.ensures.items) (pushed_order c.args.words.now.items c.args.word order (λ last some.
    let differ = subst (λ l. (get_or l (length l - 1) last).bits ≢ c.args.word.bits) c.deref.ensures.value
    (c.repeats.ensures.other c.if-repeats.false last (omega (arith, some, ap length c.deref.ensures.value))) in
    elim (cases_lt (get_or c.args.words.now.items (length c.args.words.now.items - 1) last).bits c.args.word.bits) [
      | inl less ↦ less
      | inr more ↦ absurd (let most = end last some in differ (omega (arith, most, more)))
    ]))
