use Rattle.std.proofs.Common.{◌+◌, ◌*◌, ◌≤◌, take}
use Rattle.basket_report.specs.Lines.{items_text}
use Rattle.basket_report.specs.Room.{IsPut}
use Rattle.basket_report.proofs.room.put_items.Given as goal

abbrev pub invariant-loop-item : goal.invariant-loop-item
invariant-loop-item l = record {
  put : IsPut l.fn.room l.room l.start (items_text (take l.item-index l.items)) l.end;
  within : l.end ≤ l.start + 16 * l.item-index;
}
