use Rattle.std.proofs.Common.{◌||◌, get_or, subst, ap, ◌∙◌, arith}
use Rattle.std.proofs.Math.ListN.{set}
use Rattle.std.proofs.lemmas.List.{length-set, take_all}
use Rattle.basket_sets.specs.Itemset.{has}
use Rattle.basket_sets.proofs.theory.Rising.{has_at}
use Rattle.mine_rows.specs.Marks.{IsMarked}
use Rattle.mine_rows.proofs.MarkLemmas.{one_marked}
use Rattle.mine_rows.proofs.marks.Marks.mark.Goals as goal

pub of_tid-requires : goal.of_tid-requires
of_tid-requires c = c.requires.below (get_or c.args.tids.now c.loop-tid.tid-index 0) (has_at c.args.tids.now c.loop-tid.tid-index c.loop-tid-test.true)

pub index_mut-requires : goal.index_mut-requires
index_mut-requires c =
    let below = c.requires.below (get_or c.args.tids.now c.loop-tid.tid-index 0) (has_at c.args.tids.now c.loop-tid.tid-index c.loop-tid-test.true) in
    omega (arith, below, c.loop-tid.invariant.long, c.loop-tid.self.weights.ok.0)

pub loop-tid-preserved : goal.loop-tid-preserved
loop-tid-preserved c =
    let weights = c.args.weights.now in
    let items = c.loop-tid.self.weights.items in
    let tids = c.args.tids.now in
    let i = c.loop-tid.tid-index in
    let tid = get_or tids i 0 in
    let here = c.loop-tid-test.true in
    let below = c.requires.below tid (has_at tids i here) in
    let long = length-set items tid c.of_tid.result ∙ c.loop-tid.invariant.long in
    record {
      long = long;
      marked = λ test is. record {
        long = long;
        at = λ k. ap (λ w. get_or (set items tid w) k 0) c.of_tid.ensures
            ∙ one_marked weights tids items test i k here (omega (arith, below, c.loop-tid.invariant.long)) ((c.loop-tid.invariant.marked test is).at k);
      };
    }

pub returns : goal.returns
returns c = λ test is.
    let tids = c.args.tids.now in
    subst (λ l. IsMarked c.args.weights.now (λ tid. has l tid || test tid) c.loop-tid.self) (take_all c.loop-tid.tid-index tids c.loop-tid-test.false)
    (c.loop-tid.invariant.marked test is)
