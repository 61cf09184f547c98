use Rattle.std.proofs.Common.{◌≡◌, take}
use Rattle.basket_sets.specs.Support.{support_of}
use Rattle.basket_sets.proofs.database.support.Given as goal

abbrev pub invariant-loop-weighted : goal.invariant-loop-weighted
invariant-loop-weighted l = l.support ≡ support_of (take l.weighted-index l.weighted-items) l.set
