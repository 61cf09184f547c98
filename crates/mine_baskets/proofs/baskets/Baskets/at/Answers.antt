use Rattle.std.proofs.Common.{[], get_or, subst, sym, arith}
use Rattle.std.proofs.lemmas.List.{get_or-map, length-map}
use Rattle.basket_sets.specs.Database.{weighted}
use Rattle.mine_baskets.specs.declared.span.Span.{Span}
use Rattle.mine_baskets.specs.ListBaskets.{IsRankBasket}
use Rattle.mine_baskets.specs.Span.{basket_at}
use Rattle.mine_baskets.proofs.baskets.Baskets.at.Goals as goal

abbrev none : Span
none = record { start = 0; end = 0; weight = 0 }

pub returns-clause-ranked : goal.returns-clause-ranked
returns-clause-ranked c =
    let all = c.args.self in
    let i = c.args.index in
    let receipt = basket_at all.ranks.now in
    subst (λ l. IsRankBasket all.count (weighted l (get_or all.spans.now i none).weight)) (sym c.of.ensures)
    (subst (IsRankBasket all.count) (get_or-map receipt all.spans.now i none (weighted [] 0) (omega (arith, c.requires, length-map all.spans.now receipt))) (all.ranked.each i (weighted [] 0) c.requires))
