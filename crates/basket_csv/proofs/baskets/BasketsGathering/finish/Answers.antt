use Rattle.std.proofs.Common.{subst}
use Rattle.std.specs.List.{flat_map}
use Rattle.basket_read.specs.Fault.{ReturnsBy}
use Rattle.basket_read.specs.Fimi.{if_light}
use Rattle.basket_csv.specs.Baskets.{AreNamedCounts}
use Rattle.basket_csv.specs.Csv.{basket_of, with_names}
use Rattle.basket_csv.proofs.BasketLemmas.{said}
use Rattle.basket_csv.proofs.baskets.BasketsGathering.finish.Goals as goal

pub returns-clause-said : goal.returns-clause-said
returns-clause-said c = λ reading known names rows are h.
    subst (λ all. ReturnsBy (λ found. AreNamedCounts reading.counting (found, names)) c.finish.result (with_names (if_light (flat_map (basket_of reading.weighted all) rows)) all)) are
    (said reading.counting c.finish.result (flat_map (basket_of reading.weighted names) rows) names (c.finish.ensures.baskets reading.counting (flat_map (basket_of reading.weighted names) rows) h.gathered))
