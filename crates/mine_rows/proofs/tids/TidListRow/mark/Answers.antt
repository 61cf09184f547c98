use Rattle.std.proofs.Common.{◌||◌, false, length, subst, sym, ap, ◌∙◌}
use Rattle.std.proofs.Math.Bool.{or-false}
use Rattle.basket_sets.specs.Itemset.{AllBelow, has}
use Rattle.mine_rows.proofs.MarkLemmas.{same_marks}
use Rattle.mine_rows.proofs.tids.TidListRow.mark.Goals as goal

pub mark-requires-clause-below : goal.mark-requires-clause-below
mark-requires-clause-below c =
    let (parent, cover, is) = c.requires.row in subst (AllBelow (length c.args.weights.now)) (sym (c.deref.ensures.value ∙ is.tids)) is.covers.below

pub returns : goal.returns
returns c =
    let tids = c.args.self.now.tids.items in
    same_marks c.args.weights.now (λ tid. has c.deref.result.now tid || false) (has tids) c.mark.new.self
    (λ tid. or-false (has c.deref.result.now tid) ∙ ap (λ l. has l tid) c.deref.ensures.value) (c.mark.ensures (λ tid. false) c.requires.marks)
