use Rattle.std.proofs.Common.{◌≡◌, [], map}
use Rattle.std.specs.Prelude.{All}
use Rattle.std.specs.List.{range_with_len}
use Rattle.mine_vertical.specs.Siblings.{IsSibling}
use Rattle.mine_vertical.proofs.local_baskets.LocalBaskets.with_siblings.Given as goal

abbrev pub invariant-loop-number : goal.invariant-loop-number
invariant-loop-number g l = record {
  numbers : map (λ sibling. sibling.number) l.siblings.items ≡ range_with_len 0 l.number;
  rows : All (IsSibling g.R.Row.stands l.fn.baskets.baskets []) l.siblings.items;
}
