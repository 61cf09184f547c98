use Rattle.std.proofs.Common.{◌≡◌, take, true}
use Rattle.std.specs.List.{list_all}
use Rattle.basket_read.specs.Fimi.{is_blank}
use Rattle.basket_read.proofs.byte_class.blanks_at.Given as goal

abbrev pub invariant-loop-index : goal.invariant-loop-index
invariant-loop-index l = list_all is_blank (take l.index l.bytes) ≡ true
