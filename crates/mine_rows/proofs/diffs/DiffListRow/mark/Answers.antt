use Rattle.std.proofs.Common.{◌&&◌, true, not, ap, ◌∙◌, arith}
use Rattle.std.proofs.lemmas.Grind.{common_steps}
use Rattle.std.proofs.Math.Bool.{and-true}
use Rattle.basket_sets.specs.Itemset.{has}
use Rattle.mine_rows.proofs.MarkLemmas.{same_marks}
use Rattle.mine_rows.proofs.RowLemmas.{missing_covers}
use Rattle.mine_rows.proofs.diffs.DiffListRow.mark.Goals as goal

pub clear-requires : goal.clear-requires
clear-requires c = let (parent, cover, is) = c.requires.row in let below = (missing_covers c.args._weights.now parent cover c.args.self.now is).below in grind (arith, common_steps)

pub returns : goal.returns
returns c =
    let missing = c.args.self.now.missing.items in
    same_marks c.args._weights.now (λ tid. not (has c.deref.result.now tid) && true) (λ tid. not (has missing tid)) c.clear.new.self
    (λ tid. and-true (not (has c.deref.result.now tid)) ∙ ap (λ l. not (has l tid)) c.deref.ensures.value) (c.clear.ensures c.args._weights.now (λ tid. true) c.requires.marks)
