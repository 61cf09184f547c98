use Rattle.std.proofs.Common.{ℕ, List}
use Rattle.basket_csv.specs.Pairs.{HasPairs}
use Rattle.basket_csv.proofs.AppendLemmas.{Joins}
use Rattle.basket_csv.proofs.pairs.PairsGathering.followed_by.Given as goal

abbrev pub invariant-loop-nth : goal.invariant-loop-nth
invariant-loop-nth l =
    (names : List (List ℕ)) (pairs more : List (List ℕ × List ℕ)) → HasPairs l.fn.self names pairs → HasPairs l.fn.later names more
    → Joins names pairs more (record { alloc = l.alloc; ids = l.ids; groups = l.groups }) l.nth
