use Rattle.std.proofs.Common.{◌∷◌, decimal, take}
use Rattle.std.specs.List.{flat_map}
use Rattle.std.specs.Fmt.{HasWritten, IsPlainFormatter}
use Rattle.basket_sets.proofs.itemset.ItemsetDisplay.fmt.Given as goal

abbrev pub invariant-loop-item : goal.invariant-loop-item
invariant-loop-item g l =
    IsPlainFormatter l.initial.f → HasWritten g.W.Write.write_str_gives l.initial.f (flat_map (λ other. 32 ∷ decimal other) (take l.item-index l.others)) l.f
