use Rattle.std.proofs.Common.{[], ◌∷◌, ◌++◌, ◌+◌, append_assoc, get_or, take, ap, subst, sym, ◌∙◌}
use Rattle.std.proofs.lemmas.List.{take_more}
use Rattle.mine_supports.specs.BlockCounts.{numbered}
use Rattle.mine_supports.specs.TidWord.{AreKept, AreTidsOf}
use Rattle.mine_supports.proofs.TidLemmas.{are_kept}
use Rattle.mine_supports.proofs.block.Block.kept_by_all.Goals as goal

pub loop-item-preserved : goal.loop-item-preserved
loop-item-preserved c set are =
    let baskets = numbered c.args.self.now in
    let items = c.args.items.now in
    let i = c.loop-item.item-index in
    let item = get_or items i 0 in
    let row = c.row.result.now in
    let kept = c.put_kept.new.kept.items in
    let keeps = subst (λ l. AreKept row l kept) c.deref.ensures.value c.in_ok-put_kept.ensures in
    let more = append_assoc set (take i items) (item ∷ []) ∙ ap (λ l. set ++ l) (sym (take_more items i 0 c.loop-item-test.true)) in
    subst (λ v. AreTidsOf baskets (set ++ take (i + 1) items) v.items) (sym c.swap.ensures.x_after)
    (subst (λ l. AreTidsOf baskets l kept) more (are_kept baskets (set ++ take i items) item row c.loop-item.shared.items kept (c.loop-item.invariant set are) c.row.ensures keeps))
