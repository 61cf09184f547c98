use Rattle.std.proofs.Common.{sym, subst, arith}
use Rattle.std.proofs.lemmas.Grind.{common_steps}
use Rattle.std.proofs.lemmas.List.{with_items_is}
use Rattle.basket_rules.specs.Covered.{AreMarks, IsBetween}
use Rattle.basket_rules.proofs.covered.covered_between.Goals as goal

pub loop-start-preserved : goal.loop-start-preserved
loop-start-preserved c =
    let list = c.args.covering.sets.now in
    let vec = c.loop-start.marks in
    let new = c.mark_below.new.marks in
    let seen = AreMarks list c.args.covering.supersets (IsBetween c.args.from c.clamp-next.result) in
    let old = c.loop-start.invariant.marked in
    let all : seen new = c.mark_below.ensures c.args.from (subst (AreMarks list c.args.covering.supersets (IsBetween c.args.from c.loop-start.start)) (sym c.deref_mut.ensures.value) old) in
    let before = old.long in
    let after = all.long in
    grind (arith, common_steps, with_items_is)
