use Rattle.std.proofs.Common.{ℕ, ◌+◌, get_or, ltb, take, ap, ◌∙◌, arith, ◌≡◌}
use mir.Val.{bool_byte}
use Rattle.std.proofs.Math.ListN.{set}
use Rattle.std.proofs.lemmas.List.{get_or_default, length-set}
use Rattle.std.proofs.lemmas.List.Sums.{sum_by_more, sum_by_more_le}
use Rattle.basket_sets.proofs.theory.Rising.{has_at}
use Rattle.mine_rows.proofs.MarkLemmas.{most_one, put_down}
use Rattle.mine_rows.proofs.marks.Marks.keep.Goals as goal

pub index-weight-requires : goal.index-weight-requires
index-weight-requires c =
    let below = c.requires.below (get_or c.args.tids.now c.loop-tid.tid-index 0) (has_at c.args.tids.now c.loop-tid.tid-index c.loop-tid-test.true) in
    omega (arith, below, c.args.self.now.weights.ok.0)

pub overflow_add-sum : goal.overflow_add-sum
overflow_add-sum c =
    let items = c.args.self.now.weights.items in
    let tids = c.args.tids.now in
    let i = c.loop-tid.tid-index in
    let tid = get_or tids i 0 in
    let here = c.loop-tid-test.true in
    let below = c.requires.below tid (has_at tids i here) in
    let read = c.index-weight.ensures ∙ get_or_default items tid c.index-weight.result.now 0 below in
    let more = sum_by_more_le (λ p. get_or items p 0) tids i 0 here in
    omega (arith, read, more, c.requires.light, c.loop-tid.invariant.sum)

pub loop-tid-preserved : goal.loop-tid-preserved
loop-tid-preserved c =
    let items = c.args.self.now.weights.items in
    let tids = c.args.tids.now in
    let i = c.loop-tid.tid-index in
    let count = c.loop-tid.count in
    let kept = c.loop-tid.kept.items in
    let tid = get_or tids i 0 in
    let here = c.loop-tid-test.true in
    let below = c.requires.below tid (has_at tids i here) in
    let read = c.index-weight.ensures ∙ get_or_default items tid c.index-weight.result.now 0 below in
    let test = λ (p : ℕ). ltb 0 (get_or items p 0) in
    let counted : c.from-count.result ≡ bool_byte (test tid) = c.from-count.ensures ∙ ap (λ n. bool_byte (ltb 0 n)) read in
    record {
      long = length-set kept count tid ∙ c.loop-tid.invariant.long;
      few = omega (arith, counted, most_one (test tid), c.loop-tid.invariant.few);
      kept = ap (λ n. take (count + n) (set kept count tid)) counted ∙ put_down test tids kept i count here c.loop-tid.invariant.few c.loop-tid.invariant.long c.loop-tid.invariant.kept;
      few_enough = c.if-sum-most.false;
      sum = omega (arith, read, sum_by_more (λ p. get_or items p 0) tids i 0 here, c.loop-tid.invariant.sum);
    }

pub returns-then-sum-most-clause-more : goal.returns-then-sum-most-clause-more
returns-then-sum-most-clause-more c =
    let items = c.args.self.now.weights.items in
    let tids = c.args.tids.now in
    let i = c.loop-tid.tid-index in
    let tid = get_or tids i 0 in
    let here = c.loop-tid-test.true in
    let below = c.requires.below tid (has_at tids i here) in
    let read = c.index-weight.ensures ∙ get_or_default items tid c.index-weight.result.now 0 below in
    omega (arith, read, sum_by_more_le (λ p. get_or items p 0) tids i 0 here, c.if-sum-most.true, c.loop-tid.invariant.sum)
