use Rattle.std.proofs.Common.{◌≡◌, subst}
use Rattle.std.specs.Result.{IfOk}
use Rattle.std.proofs.lemmas.Result.{IfOk-weaker}
use Rattle.basket_rules.specs.Consistency.{IsConsistent}
use Rattle.basket_rules.specs.Condensed.{closed_in, AreClosed}
use Rattle.basket_lists.specs.CountedSets.{AreUnmarked}
use Rattle.basket_rules.proofs.MarkLemmas.{all_closed}
use Rattle.basket_rules.proofs.theory.Condensed.{closed_of_baskets}
use Rattle.basket_rules.proofs.condensed.without_same_count.Goals as goal

pub returns-clause-lists : goal.returns-clause-lists
returns-clause-lists c =
    let list = c.args.frequent.now.sets in
    let marks = c.args.marks.now in
    IfOk-weaker c.unmarked.result (AreUnmarked list marks) (λ kept. IsConsistent list → kept ≡ closed_in list) (λ kept so. all_closed list marks kept c.requires so)
    (subst (λ sets. IfOk c.unmarked.result (AreUnmarked sets marks)) c.sets.ensures c.unmarked.ensures)

pub returns-clause-baskets : goal.returns-clause-baskets
returns-clause-baskets c =
    let listing = c.args.frequent.now in
    IfOk-weaker c.unmarked.result (λ kept. IsConsistent listing.sets → kept ≡ closed_in listing.sets) (AreClosed listing) (closed_of_baskets listing) (returns-clause-lists c)
