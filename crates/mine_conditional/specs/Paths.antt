-- Baskets of ranks, in whichever form they are kept: when they are a single branch, and the conditional database of a rank.
use Rattle.std.specs.Prelude.{◌≡◌, ◌≤◌, ℕ, Bool, List, length, map}
use Rattle.std.specs.List.{list_all, range_with_len}
use Rattle.basket_ranks.specs.Codes.{decoded_basket}
use Rattle.basket_sets.specs.declared.weighted.Weighted.{Weighted}
use Rattle.basket_sets.specs.Itemset.{contains}
use Rattle.mine_baskets.specs.declared.span.Span.{Span}
use Rattle.mine_baskets.specs.ListBaskets.{AreRankBaskets, HaveSameWeights, RankBaskets}
use Rattle.mine_classes.specs.Conditional.{conditional}
use Rattle.mine_pairs.specs.Pairs.{kept_ranks}
use Rattle.mine_conditional.specs.declared.paths.PathsForm.{PathsForm}
use Rattle.mine_conditional.specs.declared.paths.PathsForm.TheVariants.{Runs, Words}

abbrev pub form_baskets : PathsForm → RankBaskets
form_baskets (Runs runs) = runs
form_baskets (Words words) = words

-- whether each basket that has a rank has the lower ones too: the prefix tree of such baskets is a single branch
abbrev pub is_branch : List Weighted → Bool
is_branch baskets = list_all (λ basket. list_all (λ rank. contains basket.basket (range_with_len 0 rank)) basket.basket) baskets

-- a run ends where it starts or later
abbrev pub IsOrdered : Span → Type 0
IsOrdered run = run.start ≤ run.end

-- baskets of ranks are the conditional database of a rank, by the new numbers of the ranks that are kept
pub record IsConditional (all : List Weighted) (least rank : ℕ) (below : RankBaskets) : Type 0 where
  pub ranks : below.ranks ≡ length (kept_ranks all least rank)
  pub ranked : AreRankBaskets below
  pub weights : HaveSameWeights (conditional least all rank) (map (decoded_basket (kept_ranks all least rank)) below.baskets)
