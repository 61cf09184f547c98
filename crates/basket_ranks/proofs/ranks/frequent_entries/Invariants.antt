use Rattle.std.proofs.Common.{◌≡◌, filter, take}
use Rattle.basket_sets.specs.Minimum.{meets}
use Rattle.basket_ranks.specs.Ranks.{entries_of}
use Rattle.basket_ranks.proofs.ranks.frequent_entries.Given as goal

abbrev pub invariant-loop-item : goal.invariant-loop-item
invariant-loop-item l = entries_of l.entries.items ≡ filter (λ entry. meets l.minimum entry.1 l.total) (take l.item-index l.counts)
