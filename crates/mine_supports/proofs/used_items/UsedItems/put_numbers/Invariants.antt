use Rattle.std.proofs.Common.{take}
use Rattle.mine_supports.specs.UsedItems.{AreNumbers}
use Rattle.mine_supports.proofs.used_items.UsedItems.put_numbers.Given as goal

abbrev pub invariant-loop-item : goal.invariant-loop-item
invariant-loop-item l = AreNumbers l.self (take l.item-index l.items) l.numbers.items
