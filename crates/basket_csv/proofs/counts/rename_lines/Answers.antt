use Rattle.std.proofs.Common.{length, sym, subst, arith}
use Rattle.std.proofs.lemmas.Grind.{common_steps}
use Rattle.std.proofs.lemmas.List.{length-set}
use Rattle.basket_read.specs.declared.counted_line.CountedLine.{CountedLine}
use Rattle.basket_sets.specs.Itemset.{AllBelow}
use Rattle.basket_csv.proofs.CountLemmas.{line_at, renamed_more}
use Rattle.basket_csv.proofs.counts.rename_lines.Goals as goal

pub rename-requires : goal.rename-requires
rename-requires c =
    let lines = c.args.lines.now in
    let i = c.loop-index.index in
    let d = c.index-lines-index.result in
    subst (λ (line : CountedLine). AllBelow (length c.args.names.now) line.set) (sym (line_at c.args.names.now lines c.loop-index.lines i d c.loop-index-test.true c.loop-index.invariant.renamed)) (c.requires i d c.loop-index-test.true)

pub loop-index-preserved : goal.loop-index-preserved
loop-index-preserved c = grind (arith, common_steps, length-set, line_at, renamed_more)
