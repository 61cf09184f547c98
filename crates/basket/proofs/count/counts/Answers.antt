use Rattle.basket.proofs.CountLemmas.{contents_refuse, counts_make, sets_are_readable, sets_refuse}
use Rattle.basket.proofs.count.counts.Goals as goal

pub returns-in-Err-clause-made : goal.returns-in-Err-clause-made
returns-in-Err-clause-made g c =
    let (exact, fails, only) = rw c.layout.ensures at c.in-Err.ensures.read in (
      ((λ working. sets_refuse c.args.plan.now.layout (g.S.Source.left c.args.sets.now) (g.T.Source.left c.args.reader.now) c.in-Err.fault (exact working)), fails, only, c.requires.reader),
      λ is. cc,
    )

pub returns-in-Err-read-clause-made : goal.returns-in-Err-read-clause-made
returns-in-Err-read-clause-made g c =
    let asked = c.in-Ok.asked in
    let (asked_works, said) = rw c.layout.ensures at c.in-Ok.ensures.read in
    let (exact, fails, only) = rw c.layout-2.ensures at c.in-Err-read.ensures.read in (
      (
        (λ working. contents_refuse c.args.plan.now.layout (g.S.Source.left c.args.sets.now) asked.0.items asked.1 said (g.T.Source.left c.args.reader.now) c.in-Err-read.fault (exact working)),
        fails,
        only,
        asked_works,
        sets_are_readable c.args.plan.now.layout (g.S.Source.left c.args.sets.now) asked.0.items asked.1 said,
      ),
      λ is. cc,
    )

pub returns-clause-made : goal.returns-clause-made
returns-clause-made g c =
    let asked = c.in-Ok.asked in
    let (asked_works, said) = rw c.layout.ensures at c.in-Ok.ensures.read in
    let (works, read) = rw c.layout-2.ensures at c.in-Ok-read.ensures.read in
    counts_make c.args.plan.now.layout (g.S.Source.left c.args.sets.now) asked.0.items asked.1 said _ _ (g.T.Source.left c.args.reader.now) _ c.in-Ok-read.contents asked_works works read c.counted.result c.counted.ensures
