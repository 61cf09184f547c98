use Rattle.std.proofs.Common.{map, sym, ap, ◌∙◌}
use Rattle.std.proofs.lemmas.List.Elements.{All-weaker}
use Rattle.basket_ranks.specs.Codes.{Ranking, coded_basket}
use Rattle.basket_sets.specs.Support.{total_of}
use Rattle.basket_ranks.proofs.CodeLemmas.{coding_is}
use Rattle.basket_ranks.proofs.theory.Coding.{coded_total}
use Rattle.basket_sets.specs.Database.{IsBasket, HasWeight}
use Rattle.basket_ranks.proofs.codes.Codes.with_baskets.Goals as goal

pub new-requires-clause-coding : goal.new-requires-clause-coding
new-requires-clause-coding c =
    let items = c.self.inside.items.items in
    let database = c.requires.0 in
    let is = c.requires.1 in
    let made = c.requires.3 ∙ sym (ap (λ (r : Ranking). map (coded_basket r.items) database) c.self.view_is) in
    coding_is items c.self.inside.minimum database _ c.self.invariant.0 c.self.invariant.1 is.light (All-weaker IsBasket HasWeight (λ receipt at. at.2) _ is.each) made

pub new-requires-clause-total : goal.new-requires-clause-total
new-requires-clause-total c =
    let items = c.self.inside.items.items in
    let database = c.requires.0 in
    let made = c.requires.3 ∙ sym (ap (λ (r : Ranking). map (coded_basket r.items) database) c.self.view_is) in
    ap (λ r. r.total) (c.self.view_is ∙ c.requires.2) ∙ sym (ap total_of made ∙ coded_total items database)
