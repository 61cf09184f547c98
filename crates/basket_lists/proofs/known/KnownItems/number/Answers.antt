use Rattle.std.proofs.Common.{◌+◌, ◌*◌, ◌/◌, ◌%◌, ◌^◌, ap, ◌∙◌, subst}
use Rattle.basket_lists.specs.Packed.{Coding, IsCoding}
use Rattle.basket_lists.proofs.WordLemmas.{number_is}
use Rattle.basket_lists.proofs.known.KnownItems.number.Goals as goal

pub returns : goal.returns
returns c =
    let word = c.args.packed.now.word in
    ap (λ (k : Coding). word * 2 ^ 7 % 2 ^ 128 / 2 ^ (7 + k.count_bits)) c.self.view_is ∙ number_is c.args.self.now (subst IsCoding c.self.view_is c.self.invariant) c.args.packed.now
