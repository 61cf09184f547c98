use Rattle.std.proofs.Common.{sym, subst, ◌∙◌}
use Rattle.basket_names.specs.Names.{IsKnown}
use Rattle.basket_names.specs.Recent.{HasKnown}
use Rattle.basket_names.proofs.RecentLemmas.{numbered_known}
use Rattle.basket_names.proofs.ids.Ids.number.Goals as goal

pub invariant_of-self-2 : goal.invariant_of-self-2
invariant_of-self-2 c =
    let new = c.number.new.self in
    let number = c.in_ok-number.number in
    let known = numbered_known c.self.inside.numbering new c.args.id.now number c.utf8.id c.in_ok-number.ensures.names c.in_ok-number.ensures.number in
    subst (HasKnown new) (sym c.new-self-inside.ensures) (λ whole. subst (λ name. IsKnown new name number) (sym (c.of-key.ensures whole ∙ c.as_bytes.ensures.value)) known)
