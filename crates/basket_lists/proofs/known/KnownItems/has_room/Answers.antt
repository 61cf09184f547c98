use Rattle.std.proofs.Common.{ap, arith, leb-true, lt_of_lt_of_le, pow_mono}
use Rattle.basket_lists.specs.Packed.{Coding}
use Rattle.basket_lists.proofs.known.KnownItems.has_room.Goals as goal

pub returns : goal.returns
returns c fits =
    lt_of_lt_of_le c.bits_of.ensures.fits
    (pow_mono (omega (arith, leb-true c.bits_of.result c.self.inside.count_bits fits, ap (λ (k : Coding). k.count_bits) c.self.view_is)))
