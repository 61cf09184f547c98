use Rattle.std.proofs.Common.{◌||◌, true, length, not, subst, sym, ap, ◌∙◌}
use Rattle.basket_sets.specs.Itemset.{AllBelow, has}
use Rattle.std.proofs.Math.Bool.{or-not_self}
use Rattle.mine_rows.proofs.MarkLemmas.{same_marks}
use Rattle.mine_rows.proofs.RowLemmas.{missing_covers}
use Rattle.mine_rows.proofs.diffs.DiffListRow.unmark.Goals as goal

pub mark-requires-clause-below : goal.mark-requires-clause-below
mark-requires-clause-below c =
    let (parent, cover, is) = c.requires.row in
    subst (AllBelow (length c.args.weights.now)) (sym c.deref.ensures.value) (missing_covers c.args.weights.now parent cover c.args.self.now is).below

pub returns : goal.returns
returns c =
    let missing = c.args.self.now.missing.items in
    same_marks c.args.weights.now (λ tid. has c.deref.result.now tid || not (has missing tid)) (λ tid. true) c.mark.new.self
    (λ tid. ap (λ l. has l tid || not (has missing tid)) c.deref.ensures.value ∙ or-not_self (has missing tid)) (c.mark.ensures (λ tid. not (has missing tid)) c.requires.marks)
