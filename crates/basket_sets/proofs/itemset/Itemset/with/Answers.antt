use Rattle.std.proofs.Common.{◌∙◌, ap, sym, subst}
use Rattle.std.specs.List.{insert}
use Rattle.basket_sets.specs.Itemset.{IsRising, with_item}
use Rattle.basket_sets.proofs.theory.Rising.{with_found, with_item-rises, with_put}
use Rattle.basket_sets.proofs.itemset.Itemset.with.Goals as goal
use Rattle.basket_sets.proofs.itemset.Itemset.with.Goals.{in-Err+in_ok-insert, in_default}

pub returns-clause-ok : goal.returns-clause-ok
returns-clause-ok c =
    let item = c.args.item in
    let items = c.items.result.now in
    let up = subst IsRising (sym c.items.ensures.items) c.items.ensures.rising in
    let position = c.binary_search.ensures.position in
    let copy = c.in_ok-items.ensures.ok ∙ c.as_slice.ensures ∙ c.self.view_is ∙ sym c.items.ensures.items in
    elim c.match-binary_search.branch [
      | in-Err+in_ok-insert w ↦
          (ap (λ v. v.items) w.items-is ∙ w.in_ok-insert.ensures.ok ∙ ap (λ l. insert l w.in-Err.index item) copy
          ∙ (with_put items item w.in-Err.index up w.in-Err.ensures.position).1)
      | in_default w ↦ (ap (λ v. v.items) w.items-is ∙ copy ∙ with_found items item w.in_default.field-0 up w.in_default.ensures.position)
    ] ∙ ap (with_item item) c.items.ensures.items

pub invariant_of-result : goal.invariant_of-result
invariant_of-result c = subst IsRising (sym (returns-clause-ok c)) (with_item-rises c.args.item c.args.self.now c.items.ensures.rising)
