use Rattle.std.proofs.Common.{◌≡◌, true, false, sym, ◌∙◌}
use Rattle.basket_read.proofs.gathered.GatheredBaskets.append.Goals as goal
use Rattle.basket_read.proofs.gathered.GatheredBaskets.append.Goals.{else-other-via-then-other+else-not-counts, else-other-via-else-other}

pub returns-clause-baskets : goal.returns-clause-baskets
returns-clause-baskets c = λ counting apart baskets more h k _.
    c.in_ok-append_any.ensures counting apart baskets more (λ on. elim c.else-other.branch [
      | else-other-via-then-other+else-not-counts w ↦ sym h.chosen ∙ (w.counts.ensures w.if-not-counts.false).0
      | else-other-via-else-other w ↦ absurd (let no : true ≡ false = sym on ∙ sym k.chosen ∙ w.if-other.false in cc)
    ]) h k
