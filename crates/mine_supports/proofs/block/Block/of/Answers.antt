use Rattle.std.proofs.Common.{◌≡◌, ◌+◌, ◌*◌, ◌++◌, ◌∷◌, [], cond, filter, get_or, length, take, append-nil, subst, sym, ap, ◌∙◌, arith}
use Rattle.std.proofs.lemmas.Grind.{common_steps}
use Rattle.std.proofs.lemmas.Bool.{le-leb, lt-leb}
use Rattle.std.proofs.lemmas.List.{length-map, length_push}
use Rattle.std.proofs.lemmas.List.Elements.{filter_more}
use Rattle.std.proofs.lemmas.List.Sums.{sum_by-take-le}
use Rattle.basket_sets.specs.Itemset.{has}
use Rattle.mine_supports.specs.Needed.{is_needed, needed}
use Rattle.mine_supports.specs.TidWord.{AreTidsOf}
use Rattle.mine_supports.specs.Rows.{AreRows}
use Rattle.mine_supports.specs.UsedItems.{AreNumbers}
use Rattle.mine_supports.proofs.NeededLemmas.{needed_total}
use Rattle.mine_supports.proofs.TidLemmas.{all_more}
use Rattle.mine_supports.proofs.block.Block.of.Goals as goal
use Rattle.mine_supports.proofs.block.Block.of.Goals.{then-len-least+in_ok-add_tid, else-len-least}

pub loop-read-preserved : goal.loop-read-preserved
loop-read-preserved c =
    let used = c.args.used.now in
    let least = c.args.least in
    let baskets = c.args.baskets.now in
    let read = c.loop-read.read in
    let inv = c.loop-read.invariant in
    let basket = c.index-baskets-read.result in
    let kept = needed used least (take read baskets) in
    let numbers = subst (λ l. AreNumbers used l c.put_numbers.new.numbers.items) c.items.ensures.items c.in_ok-put_numbers.ensures in
    let count = sym (length-map c.put_numbers.new.numbers.items (λ n. get_or used n 0)) ∙ ap length numbers.named in
    let tested = ap (is_needed used least) (sym c.index-baskets-read.is) in
    let more = filter_more (is_needed used least) baskets read basket c.loop-read-test.true in
    elim c.if-len-least.branch [
      | then-len-least+in_ok-add_tid w ↦
          (let one : needed used least (take (read + 1) baskets) ≡ kept ++ basket ∷ [] =
          more ∙ ap (λ b. kept ++ cond b (get_or baskets read basket ∷ []) []) (tested ∙ le-leb least (length (filter (has used) basket.basket)) (omega (arith, count, w.if-len-least.true, c.len.ensures))) ∙ ap (λ b. kept ++ b ∷ []) (sym c.index-baskets-read.is) in
          record {
            within = omega (arith, c.loop-read-test.true);
            few = omega (arith, w.len-is, inv.few);
            long = w.len-is ∙ ap (λ n. n + 1) inv.long ∙ sym (ap length one ∙ length_push kept basket);
            room = omega (arith, inv.room, ap (λ r. r.words * 64) w.rows-is, w.push.ensures.room);
            rows = subst (AreRows used (needed used least (take (read + 1) baskets))) (sym w.rows-is)
                (subst (λ l. AreRows used l w.push.new.self) (sym one) (w.push.ensures.rows used kept basket c.in_ok-rows.ensures.rising inv.long inv.rows (subst (AreNumbers used basket.basket) (sym w.deref.ensures.value) numbers)));
            tids = subst (λ v. AreTidsOf (needed used least (take (read + 1) baskets)) [] v.items) (sym w.tids-is)
                (subst (λ l. AreTidsOf l [] w.add_tid.new.tids.items) (sym one)
                (all_more kept basket c.loop-read.len c.loop-read.tids.items w.add_tid.new.tids.items inv.long w.in_ok-add_tid.ensures inv.tids));
          })
      | else-len-least w ↦
          (let same : needed used least (take (read + 1) baskets) ≡ kept =
          more ∙ ap (λ b. kept ++ cond b (get_or baskets read basket ∷ []) []) (tested ∙ lt-leb least (length (filter (has used) basket.basket)) (omega (arith, count, w.if-len-least.false, c.len.ensures))) ∙ append-nil kept in
          record {
            within = omega (arith, c.loop-read-test.true);
            few = omega (arith, w.len-is, inv.few);
            long = w.len-is ∙ inv.long ∙ sym (ap length same);
            room = omega (arith, inv.room, ap (λ r. r.words * 64) w.rows-is);
            rows = subst (AreRows used (needed used least (take (read + 1) baskets))) (sym w.rows-is) (subst (λ l. AreRows used l c.loop-read.rows) (sym same) inv.rows);
            tids = subst (λ v. AreTidsOf (needed used least (take (read + 1) baskets)) [] v.items) (sym w.tids-is) (subst (λ l. AreTidsOf l [] c.loop-read.tids.items) (sym same) inv.tids);
          })
    ]

pub invariant_of-result : goal.invariant_of-result
invariant_of-result c = grind (arith, common_steps, needed_total, sum_by-take-le)
