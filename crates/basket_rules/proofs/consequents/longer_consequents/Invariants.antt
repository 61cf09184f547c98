use Rattle.std.proofs.Common.{◌≡◌}
use Rattle.basket_rules.specs.Consequents.{longer}
use Rattle.basket_rules.proofs.consequents.longer_consequents.Given as goal

abbrev pub invariant-loop-index : goal.invariant-loop-index
invariant-loop-index l = l.consequents.items ≡ longer l.index l.met
