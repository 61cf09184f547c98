use Rattle.std.proofs.Common.{◌+◌, take, subst, sym, ap, ◌∙◌}
use Rattle.mine_supports.specs.UsedItems.{AreNumbers}
use Rattle.mine_supports.proofs.theory.UsedItems.{no_number_more, number_more}
use Rattle.mine_supports.proofs.used_items.UsedItems.put_numbers.Goals as goal
use Rattle.mine_supports.proofs.used_items.UsedItems.put_numbers.Goals.{in-Some+in_ok-push, in_default}

pub loop-item-preserved : goal.loop-item-preserved
loop-item-preserved c =
    let used = c.args.self.now in
    let items = c.args.items.now in
    let i = c.loop-item.item-index in
    let here = c.loop-item-test.true in
    elim c.match-number.branch [
      | in-Some+in_ok-push w ↦
          subst (AreNumbers used (take (i + 1) items)) (sym (ap (λ v. v.items) w.numbers-is ∙ w.in_ok-push.ensures.items))
          (number_more used items c.loop-item.numbers.items i w.in-Some.number here w.in-Some.ensures.0 w.in-Some.ensures.1 c.loop-item.invariant)
      | in_default w ↦
          subst (AreNumbers used (take (i + 1) items)) (sym (ap (λ v. v.items) w.numbers-is))
          (no_number_more used items c.loop-item.numbers.items i here w.in_default.ensures c.loop-item.invariant)
    ]
