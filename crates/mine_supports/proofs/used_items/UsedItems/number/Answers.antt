use Rattle.std.proofs.Common.{◌≡◌, false, subst, sym, ◌∙◌}
use Rattle.basket_sets.specs.Itemset.{IsRising, has}
use Rattle.basket_sets.proofs.theory.Rising.{found_nowhere}
use Rattle.mine_supports.proofs.theory.UsedItems.{nowhere}
use Rattle.mine_supports.proofs.used_items.UsedItems.number.Goals as goal

pub returns-in-Err : goal.returns-in-Err
returns-in-Err c =
    let items = c.items-items.result.now in
    let up = subst IsRising (sym c.items-items.ensures.items) c.items-items.ensures.rising in
    subst (λ l. has l c.args.item ≡ false) (c.items-items.ensures.items ∙ c.self.view_is) (nowhere items c.args.item (found_nowhere items c.args.item c.in-Err.field-0 up c.in-Err.ensures.position))
