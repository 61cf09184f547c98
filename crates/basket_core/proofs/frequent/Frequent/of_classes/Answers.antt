use Rattle.std.proofs.Common.{sym, subst}
use Rattle.basket_ranks.specs.Codes.{baskets_of}
use Rattle.basket_sets.specs.Frequent.{ListsOnce}
use Rattle.basket_sets.proofs.theory.Frequent.{sorted_is_frequent}
use Rattle.basket_core.proofs.frequent.Frequent.of_classes.Goals as goal

pub returns : goal.returns
returns c =
    let coding = c.args.coded.now in
    let once = subst (ListsOnce (baskets_of coding) coding.minimum) (sym c.in_ok-sets.ensures) c.requires in
    let sort = c.in_ok-sort.ensures in
    let sorted = sorted_is_frequent (baskets_of coding) coding.minimum _ c.sort.new.self once sort.permutation sort.sorted in
    λ i. record { sets = sorted i; total = c.total.ensures i }
