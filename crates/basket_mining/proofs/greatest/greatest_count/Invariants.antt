use Rattle.std.proofs.Common.{◌≡◌, take}
use Rattle.basket_mining.specs.Greatest.{greatest_of}
use Rattle.basket_mining.proofs.greatest.greatest_count.Given as goal

abbrev pub invariant-loop-entry : goal.invariant-loop-entry
invariant-loop-entry l = l.greatest ≡ greatest_of (take l.entry-index l.counts)
