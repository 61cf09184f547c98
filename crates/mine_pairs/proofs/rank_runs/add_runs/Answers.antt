use Rattle.std.proofs.Common.{◌+◌, ◌<◌, ◌≤◌, length, get_or, set, ltb, subst, sym, ap, ◌∙◌, arith}
use Rattle.std.specs.Prelude.{sum_by}
use Rattle.std.proofs.lemmas.Bool.{ltb-true}
use Rattle.basket_sets.specs.Database.{MOST_WEIGHT}
use Rattle.mine_baskets.specs.declared.span.Span.{Span}
use Rattle.mine_pairs.specs.Runs.{HaveRuns, lists_in, with_run}
use Rattle.mine_baskets.specs.Span.{span_front}
use Rattle.mine_pairs.proofs.theory.Runs.{have_more, have_outside, length-lists_in, list_at, lists_in-set, untouched}
use Rattle.mine_pairs.proofs.rank_runs.add_runs.Goals as goal
use Rattle.mine_pairs.proofs.rank_runs.add_runs.Goals.{in-Some+in_ok-add_run, in_default}

pub add_run-requires-clause-some : goal.add_run-requires-clause-some
add_run-requires-clause-some c = λ same.
    let depth = c.loop-depth.depth in
    let number = c.in-Some.number in
    let here : number < length c.args.of.now = omega (arith, c.in-Some.ensures.within, c.requires.long) in
    let now = list_at c.loop-depth.of number c.index-of-number.result (omega (arith, here, c.loop-depth.auto.of)) in
    let there = c.requires.there depth number (ltb-true depth c.args.shared same) c.loop-depth-test.true here c.in-Some.ensures.is in
    subst (λ l. 0 < length l) (sym (untouched c.args.path.now c.args.basket c.args.shared c.args.range.first (lists_in c.args.of.now) c.requires.rises depth (lists_in c.loop-depth.of) c.loop-depth.invariant c.loop-depth-test.true number c.in-Some.ensures.is) ∙ now) there

pub add_run-requires-clause-light : goal.add_run-requires-clause-light
add_run-requires-clause-light c =
    let number = c.in-Some.number in
    let here : number < length c.args.of.now = omega (arith, c.in-Some.ensures.within, c.requires.long) in
    let now = list_at c.loop-depth.of number c.index-of-number.result (omega (arith, here, c.loop-depth.auto.of)) in
    let light = subst (λ l. sum_by (λ (other : Span). other.weight) l + c.args.basket.weight ≤ MOST_WEIGHT)
    (sym (untouched c.args.path.now c.args.basket c.args.shared c.args.range.first (lists_in c.args.of.now) c.requires.rises c.loop-depth.depth (lists_in c.loop-depth.of) c.loop-depth.invariant c.loop-depth-test.true number c.in-Some.ensures.is) ∙ now)
    (c.requires.light number here) in
    let weight = ap (λ (run : Span). run.weight) c.first-run.ensures in
    omega (arith, light, weight)

pub loop-depth-preserved : goal.loop-depth-preserved
loop-depth-preserved c =
    let path = c.args.path.now in
    let depth = c.loop-depth.depth in
    let shared = c.args.shared in
    let first = c.args.range.first in
    let old = lists_in c.args.of.now in
    let lists = lists_in c.loop-depth.of in
    elim c.match-number.branch [
      | in-Some+in_ok-add_run w ↦
          (let number = w.in-Some.number in
          let here : number < length c.args.of.now = omega (arith, w.in-Some.ensures.within, c.requires.long) in
          let now = list_at c.loop-depth.of number w.index-of-number.result (omega (arith, here, c.loop-depth.auto.of)) in
          let same = ltb depth shared in
          let added = ap lists_in w.of-is ∙ lists_in-set c.loop-depth.of number w.add_run.new.runs
          ∙ ap (set lists number) (w.in_ok-add_run.ensures ∙ ap (λ run. with_run same run (get_or c.loop-depth.of number w.index-of-number.result).items) w.first-run.ensures ∙ ap (with_run same (span_front c.args.basket depth)) (sym now)) in
          subst (HaveRuns path c.args.basket shared (depth + 1) first old) (sym added)
          (have_more path c.args.basket shared first old c.requires.rises depth lists c.loop-depth.invariant c.loop-depth-test.true number w.in-Some.ensures.is (omega (arith, here, c.loop-depth.auto.of, length-lists_in c.loop-depth.of))))
      | in_default w ↦ subst (λ of. HaveRuns path c.args.basket shared (depth + 1) first old (lists_in of)) (sym w.of-is)
          (have_outside path c.args.basket shared first old c.requires.rises depth lists c.loop-depth.invariant c.loop-depth-test.true
          (λ n inside at. w.in_default.ensures.outside n (omega (arith, inside, length-lists_in c.args.of.now, c.requires.long)) at))
    ]
