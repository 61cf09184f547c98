use Rattle.std.proofs.Common.{◌≡◌, ◌∷◌, [], map}
use Rattle.std.specs.List.{range_with_len}
use Rattle.basket_sets.specs.Support.{support_of}
use Rattle.mine_fp.proofs.forest.all_ranks.Given as goal

abbrev pub invariant-loop-rank : goal.invariant-loop-rank
invariant-loop-rank l = l.ranks.items ≡ map (λ rank. (rank, support_of l.runs.baskets (rank ∷ []))) (range_with_len 0 l.rank)
