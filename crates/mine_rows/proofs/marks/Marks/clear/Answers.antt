use Rattle.std.proofs.Common.{◌&&◌, get_or, not, subst, ◌∙◌, arith}
use Rattle.std.proofs.lemmas.List.{length-set, take_all}
use Rattle.basket_sets.specs.Itemset.{has}
use Rattle.basket_sets.proofs.theory.Rising.{has_at}
use Rattle.mine_rows.specs.Marks.{IsMarked}
use Rattle.mine_rows.proofs.MarkLemmas.{one_cleared}
use Rattle.mine_rows.proofs.marks.Marks.clear.Goals as goal

pub index_mut-requires : goal.index_mut-requires
index_mut-requires c =
    let below = c.requires (get_or c.args.tids.now c.loop-tid.tid-index 0) (has_at c.args.tids.now c.loop-tid.tid-index c.loop-tid-test.true) in
    omega (arith, below, c.loop-tid.invariant.long, c.loop-tid.self.weights.ok.0)

pub loop-tid-preserved : goal.loop-tid-preserved
loop-tid-preserved c =
    let items = c.loop-tid.self.weights.items in
    let tids = c.args.tids.now in
    let i = c.loop-tid.tid-index in
    let tid = get_or tids i 0 in
    let here = c.loop-tid-test.true in
    let below = c.requires tid (has_at tids i here) in
    record {
      long = length-set items tid 0 ∙ c.loop-tid.invariant.long;
      marked = λ weights test is.
          let so_far = c.loop-tid.invariant.marked weights test is in
          record {
            long = length-set items tid 0 ∙ so_far.long;
            at = λ k. one_cleared weights tids items test i k here (omega (arith, below, c.loop-tid.invariant.long)) (so_far.at k);
          };
    }

pub returns : goal.returns
returns c = λ weights test is.
    subst (λ l. IsMarked weights (λ tid. not (has l tid) && test tid) c.loop-tid.self) (take_all c.loop-tid.tid-index c.args.tids.now c.loop-tid-test.false)
    (c.loop-tid.invariant.marked weights test is)
