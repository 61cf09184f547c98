use Rattle.std.proofs.Common.{[], fold, map, ap, sym, ◌∙◌, arith}
use Rattle.std.specs.Vec.Iter.{into_iter_items}
use Rattle.std.proofs.lemmas.List.Sums.{sum_by-cons}
use Rattle.basket_sets.specs.Database.{with_basket}
use Rattle.basket_sets.specs.Merge.{as_weighted}
use Rattle.basket_sets.specs.Support.{total_of, weight_at}
use Rattle.basket_sets.proofs.theory.Merging.{total_with}
use Rattle.basket_sets.proofs.merge.merged.Goals as goal

pub loop-weighted-preserved : goal.loop-weighted-preserved
loop-weighted-preserved c =
    let old = map as_weighted c.loop-weighted.weights.entries in
    let rest = into_iter_items c.next.new.self in
    let steps = c.in-Some.ensures.steps.0 in
    record {
      can = tt;
      ends = tt;
      whole = ap (λ receipts. fold with_basket receipts rest) c.in_ok-add.ensures ∙ ap (fold with_basket old) (sym steps) ∙ c.loop-weighted.invariant.whole;
      light = omega (arith, c.loop-weighted.invariant.light, ap total_of steps, sum_by-cons (weight_at []) c.in-Some.weighted rest, ap total_of c.in_ok-add.ensures, total_with old c.in-Some.weighted);
    }
