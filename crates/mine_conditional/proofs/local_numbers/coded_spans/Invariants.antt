use Rattle.std.proofs.Common.{◌≡◌, ◌≤◌, length, map, take}
use Rattle.std.specs.Prelude.{All}
use Rattle.mine_baskets.specs.Baskets.{baskets_in}
use Rattle.mine_baskets.specs.Span.{IsWithin, baskets_at}
use Rattle.mine_conditional.specs.LocalNumbers.{by_table}
use Rattle.mine_conditional.proofs.local_numbers.coded_spans.Given as goal

abbrev pub invariant-loop-index : goal.invariant-loop-index
invariant-loop-index l = record {
  room : l.end ≤ length l.locals.items;
  within : All (IsWithin l.end) l.spans.items;
  placed : baskets_at (take l.end l.locals.items) l.spans.items ≡ map (by_table l.of) (take l.index (baskets_in l.baskets));
}
