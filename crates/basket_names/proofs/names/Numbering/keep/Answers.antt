use Rattle.std.proofs.Common.{sym, subst}
use Rattle.basket_names.specs.Recent.{IsNumberAt}
use Rattle.basket_names.proofs.names.Numbering.keep.Goals as goal

pub invariant_of-self-2 : goal.invariant_of-self-2
invariant_of-self-2 c =
    c.keep.ensures _ (subst (λ names. IsNumberAt names c.args.key.now c.args.number) (sym c.self.view_is) c.requires) (c.make_room.ensures _ c.self.invariant)
