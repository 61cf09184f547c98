use Rattle.std.proofs.Common.{◌≡◌, ◌+◌, ◌<◌, ◌≤◌, [], true, ℕ, length, get_or, take, subst, sym, ap, ◌∙◌, arith}
use Rattle.std.proofs.lemmas.Grind.{common_steps}
use Rattle.std.specs.Prelude.{sum_by}
use Rattle.std.specs.List.{slice_range}
use Rattle.std.proofs.lemmas.List.{length-map, get_or-map, with_items_is}
use Rattle.basket_sets.specs.declared.weighted.Weighted.{Weighted}
use Rattle.basket_sets.specs.Database.{MOST_WEIGHT}
use Rattle.basket_sets.specs.Itemset.{IsRising}
use Rattle.mine_baskets.specs.declared.span.Span.{Span}
use Rattle.mine_baskets.specs.ListBaskets.{repeats_last}
use Rattle.mine_pairs.specs.Runs.{HaveRuns, HaveRunsFrom, lists_in}
use Rattle.mine_baskets.specs.Span.{basket_at, baskets_at}
use Rattle.mine_pairs.proofs.theory.Runs.{length-lists_in}
use Rattle.mine_pairs.proofs.theory.RunLoops.{basket_more, next_again, next_are, rank_basket_at, runs_light, shared_again}
use Rattle.mine_pairs.proofs.rank_runs.runs_of_range.Goals as goal
use Rattle.mine_baskets.proofs.theory.Neighbours.{some_repeats}

abbrev none : Span
none = record { start = 0; end = 0; weight = 0 }

pub add_runs-requires-clause-rises : goal.add_runs-requires-clause-rises
add_runs-requires-clause-rises c = subst IsRising (sym c.of-path.ensures)
    (rank_basket_at c.args.baskets.ranks.now c.args.baskets.count c.args.baskets.spans.now c.loop-basket.basket-index none c.args.baskets.ranked.each c.loop-basket-test.true).rises

pub add_runs-requires-clause-long : goal.add_runs-requires-clause-long
add_runs-requires-clause-long c = ap length c.deref_mut.ensures.value ∙ sym (length-lists_in c.loop-basket.of.items) ∙ c.loop-basket.invariant.runs.long

pub add_runs-requires-clause-there : goal.add_runs-requires-clause-there
add_runs-requires-clause-there c = λ k n low inside here at.
    let ranks = c.args.baskets.ranks.now in
    let path = c.of-path.result.now in
    let lists = lists_in c.loop-basket.of.items in
    let below : n < length lists = omega (arith, here, ap length c.deref_mut.ensures.value, length-lists_in c.loop-basket.of.items) in
    let again = shared_again ranks c.args.range.first lists c.loop-basket.last.now path c.shared.result c.shared.ensures.in_first c.shared.ensures.same c.loop-basket.invariant.again k n low below at in
    subst (λ l. 0 < length (get_or (lists_in l) n [])) (sym c.deref_mut.ensures.value) (some_repeats ranks (get_or lists n []) (take k path) again)

pub add_runs-requires-clause-light : goal.add_runs-requires-clause-light
add_runs-requires-clause-light c = λ n low.
    let ranks = c.args.baskets.ranks.now in
    let baskets = c.args.baskets.spans.now in
    let i = c.loop-basket.basket-index in
    let test = c.loop-basket-test.true in
    let runs = get_or (lists_in c.loop-basket.of.items) n [] in
    let here : n < c.args.range.count = omega (arith, low, ap length c.deref_mut.ensures.value, length-lists_in c.loop-basket.of.items, c.loop-basket.invariant.runs.long) in
    let light = runs_light ranks (baskets_at ranks baskets) i (basket_at ranks none) (c.args.range.first + n) runs (omega (arith, length-map baskets (basket_at ranks), test)) c.args.baskets.ranked.light (c.loop-basket.invariant.runs.are n here) in
    let is = get_or-map (basket_at ranks) baskets i none (basket_at ranks none) test in
    subst (λ l. sum_by (λ (run : Span). run.weight) (get_or (lists_in l) n []) + (get_or baskets i none).weight ≤ MOST_WEIGHT) (sym c.deref_mut.ensures.value)
    (subst (λ (p : Weighted). sum_by (λ (run : Span). run.weight) runs + p.weight ≤ MOST_WEIGHT) is light)

pub loop-basket-preserved : goal.loop-basket-preserved
loop-basket-preserved c =
    let ranks = c.args.baskets.ranks.now in
    let baskets = c.args.baskets.spans.now in
    let count = c.args.baskets.count in
    let first = c.args.range.first in
    let i = c.loop-basket.basket-index in
    let here = c.loop-basket-test.true in
    let basket = get_or baskets i none in
    let path = slice_range ranks basket.start basket.end in
    let shared = c.shared.result in
    let vec = c.loop-basket.of in
    let old = lists_in vec.items in
    let new = lists_in c.add_runs.new.of in
    let inv = c.loop-basket.invariant in
    let inside = c.args.baskets.within i none here in
    let is = rank_basket_at ranks count baskets i none c.args.baskets.ranked.each here in
    let back = with_items_is vec c.add_runs.new.of (omega (arith, vec.ok, c.add_runs.auto.of, c.deref_mut.ensures.len)) in
    let have : HaveRuns path basket shared (length path) first old new = grind (arith, common_steps) in
    let are = λ (n : ℕ) (below : n < length old). inv.runs.are n (omega (arith, below, inv.runs.long)) in
    let again = λ (k n : ℕ) (before : k < shared) (within : k < length path) (below : n < length old) (at : get_or path k 0 ≡ first + n).
    subst (λ p. repeats_last (baskets_at ranks (get_or old n [])) (take k p) ≡ true) c.of-path.ensures
    (shared_again ranks first old c.loop-basket.last.now c.of-path.result.now shared c.shared.ensures.in_first c.shared.ensures.same inv.again k n before below (ap (λ p. get_or p k 0) c.of-path.ensures ∙ at)) in
    record {
      runs = subst (λ l. HaveRunsFrom first c.args.range.count ranks (take (i + 1) (baskets_at ranks baskets)) (lists_in l)) (sym back)
          (subst (λ l. HaveRunsFrom first c.args.range.count ranks l new) (basket_more ranks baskets i none here) (record {
            long = have.long ∙ inv.runs.long;
            are = λ n below. next_are ranks count basket inside is (take i (baskets_at ranks baskets)) shared first old new have are again n (omega (arith, below, inv.runs.long));
          }));
      again = subst (λ l. (k n : ℕ) → k < length c.of-path.result.now → n < length (lists_in l) → get_or c.of-path.result.now k 0 ≡ first + n
          → repeats_last (baskets_at ranks (get_or (lists_in l) n [])) (take k c.of-path.result.now) ≡ true) (sym back)
          (subst (λ p. (k n : ℕ) → k < length p → n < length new → get_or p k 0 ≡ first + n → repeats_last (baskets_at ranks (get_or new n [])) (take k p) ≡ true) (sym c.of-path.ensures)
          (λ k n before below at. next_again ranks count basket inside is (take i (baskets_at ranks baskets)) shared first old new have are again k n before (omega (arith, below, have.long)) at));
    }
