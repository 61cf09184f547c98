use Rattle.std.proofs.Common.{◌≡◌, ◌<◌, ◌++◌, [], get_or, length, ◌∙◌, arith}
use Rattle.std.proofs.lemmas.Grind.{common_steps}
use Rattle.std.specs.Cmp.Lexicographic.{slice_cmp}
use Rattle.std.specs.Ordering.{nat_cmp}
use Rattle.mine_apriori.proofs.SearchLemmas.{compared, found_at, greater_from, is_missing, is_there, smaller_to}
use Rattle.mine_apriori.proofs.search.find_near.Goals as goal
use Rattle.mine_apriori.proofs.search.find_near.Goals.{After-compare_parts}

-- the index is within the list, and the set there compares as the one that was read
below : (c : After-compare_parts) → c.in-Some.at < length c.args.sets.now
below c = omega (arith, c.loop-at.invariant.within, c.in-Some.ensures.before)

answered : (c : After-compare_parts) → slice_cmp nat_cmp (get_or c.args.sets.now c.in-Some.at []) (c.args.front.now ++ c.args.rest.now) ≡ c.compare_parts.result
answered c = grind (arith, common_steps, compared, below)

pub loop-at-preserved-in-Less : goal.loop-at-preserved-in-Less
loop-at-preserved-in-Less c =
    let here = (goal.at.loop-at-preserved-in-Less c).After-compare_parts in
    let inside = below here in
    let key = c.args.front.now ++ c.args.rest.now in
    record {
      begun = omega (arith, inside, c.go_after.ensures.start);
      within = omega (arith, c.loop-at.invariant.within, c.go_after.ensures.end);
      smaller = λ k low. smaller_to c.args.sets.now key c.requires.sorted c.in-Some.at inside (answered here ∙ c.in-Less.is) k (omega (arith, low, c.go_after.ensures.start));
      greater = λ k high. c.loop-at.invariant.greater k (omega (arith, high, c.go_after.ensures.end));
    }

pub loop-at-preserved : goal.loop-at-preserved
loop-at-preserved c =
    let here = (goal.at.loop-at-preserved c).After-compare_parts in
    let key = c.args.front.now ++ c.args.rest.now in
    record {
      begun = omega (arith, c.loop-at.invariant.begun, c.go_before.ensures.start);
      within = omega (arith, below here, c.go_before.ensures.end);
      smaller = λ k low. c.loop-at.invariant.smaller k (omega (arith, low, c.go_before.ensures.start));
      greater = λ k high. greater_from c.args.sets.now key c.requires.sorted c.in-Some.at (answered here ∙ c.in-Greater.is) k (omega (arith, high, c.go_before.ensures.end));
    }

pub returns-in-Equal-clause-found : goal.returns-in-Equal-clause-found
returns-in-Equal-clause-found c =
    let here = (goal.at.returns-in-Equal-clause-found c).After-compare_parts in
    let key = c.args.front.now ++ c.args.rest.now in
    is_there c.args.sets.now key c.in-Some.at (below here) (found_at c.args.sets.now key c.in-Some.at (answered here ∙ c.in-Equal.is))

pub returns-clause-found : goal.returns-clause-found
returns-clause-found c =
    let i = c.loop-at.invariant in
    is_missing c.args.sets.now (c.args.front.now ++ c.args.rest.now) c.loop-at.search.start c.loop-at.search.end c.in_default.ensures.over i.smaller i.greater
