-- Baskets of ranks, borrowed.
use Rattle.std.specs.Prelude.{List}
use Rattle.basket_sets.specs.declared.weighted.Weighted.{Weighted}
use Rattle.mine_baskets.specs.declared.baskets.Baskets.{Baskets}
use Rattle.mine_baskets.specs.ListBaskets.{RankBaskets}
use Rattle.mine_baskets.specs.Span.{baskets_at}

-- the baskets
abbrev pub baskets_in : Baskets → List Weighted
baskets_in view = baskets_at view.ranks.now view.spans.now

-- the baskets, and how many ranks there are
abbrev pub rank_baskets : Baskets → RankBaskets
rank_baskets view = record { ranks = view.count; baskets = baskets_in view }
