use Rattle.std.proofs.Common.{length, ap, ◌∙◌, subst, sym, arith}
use Rattle.std.specs.List.{flat_map}
use Rattle.basket_sets.specs.Frequent.{ListsOnce}
use Rattle.basket_ranks.specs.Codes.{baskets_of}
use Rattle.basket_core.specs.Listing.{listing_of}
use Rattle.mine_apriori.specs.Levels.{asked_of}
use Rattle.mine_apriori.proofs.LevelsLemmas.{found_as_many, one_class_once}
use Rattle.mine_apriori.proofs.levels.Levels.finish_shared.Goals as goal

pub of_classes_shared-requires-after_bounds : goal.of_classes_shared-requires-after_bounds
of_classes_shared-requires-after_bounds g c κs within =
    let knows = c.self.invariant.1 in
    subst (λ coding. ListsOnce (baskets_of coding) coding.minimum (flat_map (λ class. class) c.in_ok-classes.classes.items)) (sym c.coded_items.ensures)
    (one_class_once c.self.inside.coded.now c.self.invariant.0 c.self.inside.size knows.some (ap (λ s. asked_of s.coding s.size) c.self.view_is ∙ c.requires) c.self.inside.found knows.found_all _ c.in_ok-classes.ensures.items)

pub returns-clause-within : goal.returns-clause-within
returns-clause-within g c =
    let knows = c.self.invariant.1 in
    let many = found_as_many c.self.inside.coded.now c.self.invariant.0 c.self.inside.size knows.some (ap (λ s. asked_of s.coding s.size) c.self.view_is ∙ c.requires) c.self.inside.found knows.found_all in
    omega (arith, many, ap (λ f. length f.sets) (c.in_ok-of_classes_shared.ensures ∙ ap listing_of c.coded_items.ensures), ap (λ s. s.limit) c.self.view_is, knows.few)
