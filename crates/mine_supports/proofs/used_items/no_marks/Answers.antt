use Rattle.mine_supports.proofs.theory.UsedItems.{unmarked}
use Rattle.mine_supports.proofs.used_items.no_marks.Goals as goal

pub returns : goal.returns
returns c = unmarked 65536 _ (c.in_ok-vec.ensures.items_if_clones_equal (λ y e. e))
