-- Baskets of numbers, each of which stands for a rank.
use Rattle.std.specs.Prelude.{◌≡◌, ◌++◌, ℕ, List, length, map, slice_index}
use Rattle.basket_sets.specs.declared.weighted.Weighted.{Weighted}
use Rattle.basket_sets.specs.Counts.{AllBelow}
use Rattle.basket_sets.specs.Support.{support_of}
use Rattle.mine_baskets.specs.ListBaskets.{RankBaskets}
use Rattle.mine_baskets.specs.Span.{baskets_at}
use Rattle.mine_vertical.specs.declared.local_baskets.LocalBaskets.{LocalBaskets}

-- the ranks of some numbers
abbrev pub named : List ℕ → List ℕ → List ℕ
named ranks numbers = map (λ number. slice_index ranks number) numbers

-- the baskets
abbrev pub baskets_in : LocalBaskets → List Weighted
baskets_in local = baskets_at local.numbers.items local.spans.items

-- the baskets, and how many numbers there are
abbrev pub numbered_in : LocalBaskets → RankBaskets
numbered_in local = record { ranks = length local.ranks.items; baskets = baskets_in local }

-- other baskets give each set of some numbers, by their indexes, the support that it has together with a set
pub record IsNarrowed (outer : LocalBaskets) (set kept : List ℕ) (inner : LocalBaskets) : Type 0 where
  pub ranks : inner.ranks.items ≡ named outer.ranks.items kept
  pub supports : (indexes : List ℕ) → AllBelow (length kept) indexes → support_of (baskets_in inner) indexes ≡ support_of (baskets_in outer) (named kept indexes ++ set)
