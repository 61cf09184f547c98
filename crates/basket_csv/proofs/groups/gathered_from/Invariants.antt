use Rattle.std.proofs.Common.{false, take}
use Rattle.std.specs.List.{flat_map}
use Rattle.basket_read.specs.Fimi.{basket_of_numbers}
use Rattle.basket_read.specs.GatheredBaskets.{HasGathered}
use Rattle.basket_csv.proofs.groups.gathered_from.Given as goal

abbrev pub invariant-loop-group : goal.invariant-loop-group
invariant-loop-group l = HasGathered l.gathered false (flat_map (λ group. basket_of_numbers group.items 1) (take l.group-index l.groups))
