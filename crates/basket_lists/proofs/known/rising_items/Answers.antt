use Rattle.std.proofs.Common.{ap, ◌∙◌, sym, subst}
use Rattle.std.proofs.lemmas.Result.{IfOk-weaker}
use Rattle.basket_sets.specs.Itemset.{IsRising}
use Rattle.basket_sets.proofs.theory.Rising.{nil_rises}
use Rattle.basket_lists.proofs.known.rising_items.Goals as goal
use Rattle.basket_lists.proofs.known.rising_items.Goals.{then-not-is_rising, else-not-is_rising}

pub returns : goal.returns
returns c =
    let rises : IsRising c.if-not-is_rising.items.items = elim c.if-not-is_rising.branch [
      | then-not-is_rising w ↦ subst IsRising (sym (ap (λ items. items.items) w.items-is ∙ w.clear.ensures.items)) nil_rises
      | else-not-is_rising w ↦ subst IsRising (c.deref.ensures.value ∙ sym (ap (λ items. items.items) w.items-is)) (c.is_rising.ensures.0 w.if-not-is_rising.false)
    ] in
    IfOk-weaker c.from_vec.result _ _ (λ items same. subst IsRising (sym same) rises) c.from_vec.ensures
