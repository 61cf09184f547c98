use Rattle.std.proofs.Common.{◌&&◌, false, not, ap, ◌∙◌}
use Rattle.basket_sets.specs.Itemset.{has}
use Rattle.std.proofs.Math.Bool.{not-and_self}
use Rattle.mine_rows.proofs.MarkLemmas.{same_marks}
use Rattle.mine_rows.proofs.tids.TidListRow.unmark.Goals as goal

pub returns : goal.returns
returns c =
    let tids = c.args.self.now.tids.items in
    same_marks c.args._weights.now (λ tid. not (has c.deref.result.now tid) && has tids tid) (λ tid. false) c.clear.new.self
    (λ tid. ap (λ l. not (has l tid) && has tids tid) c.deref.ensures.value ∙ not-and_self (has tids tid)) (c.clear.ensures c.args._weights.now (has tids) c.requires.marks)
