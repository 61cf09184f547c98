use Rattle.std.proofs.Common.{◌≡◌, take}
use Rattle.basket_sets.specs.Counts.{entries_of}
use Rattle.basket_sets.proofs.counts.listed.Given as goal

abbrev pub invariant-loop-item : goal.invariant-loop-item
invariant-loop-item l = l.entries.items ≡ entries_of (take l.item l.table)
