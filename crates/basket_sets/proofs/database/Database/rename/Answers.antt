use Rattle.std.proofs.Common.{◌≡◌, List, length, map, ◌∙◌, ap, sym, subst, arith}
use Rattle.std.proofs.lemmas.List.{with_items_is}
use Rattle.basket_sets.specs.declared.weighted.Weighted.{Weighted}
use Rattle.basket_sets.specs.Database.{IsDatabase, renamed_basket}
use Rattle.basket_sets.specs.Support.{total_of}
use Rattle.basket_sets.proofs.RenameLemmas.{renamed_is_database}
use Rattle.basket_sets.proofs.theory.Renaming.{renamed_total}
use Rattle.basket_sets.proofs.database.Database.rename.Goals as goal

pub invariant_of-self : goal.invariant_of-self
invariant_of-self c =
    let names = c.args.names.now in
    let baskets = c.self.inside.baskets.items in
    let same = with_items_is c.self.inside.baskets c.rename_each.new.baskets (omega (arith, c.rename_each.auto.baskets, c.deref_mut.ensures.len)) in
    let is = same ∙ c.rename_each.ensures ∙ ap (map (renamed_basket names)) c.deref_mut.ensures.value in (
      subst IsDatabase (sym is) (renamed_is_database names baskets c.self.invariant.0),
      c.self.invariant.1 ∙ sym (renamed_total names baskets) ∙ ap total_of (sym is),
    )
