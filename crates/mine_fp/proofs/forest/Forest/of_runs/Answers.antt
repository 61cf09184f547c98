use Rattle.std.proofs.Common.{rules, [], ◌∷◌, map, sym, ap, ◌∙◌}
use Rattle.std.specs.List.{range_with_len}
use Rattle.basket_sets.specs.Support.{support_of}
use Rattle.mine_baskets.specs.ListBaskets.{RankBaskets}
use Rattle.mine_fp.proofs.forest.Forest.of_runs.Goals as goal

pub invariant_of-result : goal.invariant_of-result
invariant_of-result c = record {
  coding = c.items.ensures.coding;
  least = c.least_support.ensures;
  count = search (rules, c.of_runs.ensures, c.requires);
  ranked = search (rules, c.of_runs.ensures, c.requires);
  supports = search (rules, c.of_runs.ensures, c.requires);
  ranks = c.in_ok-ranks.ensures ∙ ap (λ (paths : RankBaskets). map (λ rank. (rank, support_of paths.baskets (rank ∷ []))) (range_with_len 0 paths.ranks)) (sym c.of_runs.ensures);
}
