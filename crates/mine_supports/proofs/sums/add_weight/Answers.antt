use Rattle.std.proofs.Common.{◌+◌, get_or, sym, ap, ◌∙◌, arith}
use Rattle.mine_supports.proofs.SumLemmas.{other_sum, sum_set}
use Rattle.mine_supports.proofs.sums.add_weight.Goals as goal
use Rattle.mine_supports.proofs.sums.add_weight.Goals.{then-index-sums, else-index-sums}

pub loop-item-preserved : goal.loop-item-preserved
loop-item-preserved c item within =
    let items = c.args.items.now in
    let i = c.loop-item.item-index in
    let here = c.loop-item-test.true in
    let weight = c.args.weight in
    let start = get_or c.args.sums.now item 0 in
    let before = c.loop-item.invariant item within in
    elim c.if-index-sums.branch [
      | then-index-sums w ↦ ap (λ l. get_or l item 0) w.sums-is ∙ sum_set items i item weight c.requires.rising here c.loop-item.sums start w.if-index-sums.true before
      | else-index-sums w ↦ ap (λ l. get_or l item 0) w.sums-is ∙ before
          ∙ ap (λ n. start + n) (sym (other_sum items i item weight c.requires.rising here (λ e. absurd (omega (arith, e, within, w.if-index-sums.false, c.loop-item.auto.sums)))))
    ]
