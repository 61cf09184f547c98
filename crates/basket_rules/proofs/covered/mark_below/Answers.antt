use Rattle.std.proofs.Common.{◌≡◌, ◌∙◌, subst, arith}
use Rattle.basket_rules.specs.Covered.{AreMarks, IsBetween}
use Rattle.basket_rules.proofs.covered.mark_below.Goals as goal

pub loop-number-preserved : goal.loop-number-preserved
loop-number-preserved c = record {
  long = c.mark_subsets.ensures.long ∙ c.loop-number.invariant.long;
  marked = λ from before. c.mark_subsets.ensures.marked from (c.loop-number.invariant.marked from before);
}

pub returns : goal.returns
returns c = λ from before.
    let at : c.loop-number.number ≡ c.args.end = omega (arith, c.loop-number.auto.number, c.loop-number.auto.number-end, c.loop-number-test.false) in
    subst (λ end. AreMarks c.args.covering.sets.now c.args.covering.supersets (IsBetween from end) c.loop-number.marks) at (c.loop-number.invariant.marked from before)
