use Rattle.std.proofs.Common.{◌≤◌, ◌<◌, ◌+◌, ◌∷◌, [], Err, length, get_or, refl, subst, sym, ap, ◌∙◌, inl, inr, arith, length-append}
use Rattle.std.proofs.lemmas.Result.{err_from_is_err_and}
use Rattle.basket_sets.specs.Itemset.{with_item}
use Rattle.basket_sets.specs.declared.counted.Counted.{Counted}
use Rattle.basket_lists.specs.CountedSets.{set_at}
use Rattle.mine_search.specs.Node.{Node}
use Rattle.mine_search.specs.Search.{IsOf, reached}
use Rattle.mine_search.proofs.NodeLemmas.{FindsPart, adds_one, extended, fails, part_at_most, part_is_all, turn_adds, turn_at, turn_within}
use Rattle.mine_search.proofs.ReadLemmas.{free_one, bounds, read_more}
use Rattle.mine_search.proofs.branch.read_off.Goals as goal

pub returns-in_err-add_longer : goal.returns-in_err-add_longer
returns-in_err-add_longer g c =
    let p = err_from_is_err_and c.from_residual.result c.from_residual.ensures.1 in
    let inside : c.loop-at.at < length (g.P.Projected.ranks c.args.base.now) = omega (arith, c.loop-at-test.true, c.len-at-end.ensures) in
    record {
      done = fails _ _ _ _ _ _ p.0 p.1
          (λ node is.
          let turn = turn_at g.P.Projected.ranks g.met.P.Projected.ranks_are is c.loop-at.at inside in
          let within = turn_within turn _ _ (c.loop-at.invariant.found node is) in (
            λ limit e. (let (same, why) = c.add_longer.ensures.too_many limit (c.in_err-add_longer.was ∙ ap Err (sym p.2 ∙ e)) in
                record { limit_is = same ∙ c.loop-at.invariant.limit; why = elim why [ inl done ↦ inl done | inr less ↦ inr (omega (arith, within.1, less)) ] }),
            omega (arith, within.0, c.add_longer.ensures.at_most),
          ))
          (c.add_longer.ensures.limit ∙ c.loop-at.invariant.limit);
    }

pub returns-in_err-choose : goal.returns-in_err-choose
returns-in_err-choose g c =
    let p = err_from_is_err_and c.from_residual-in_err-choose.result c.from_residual-in_err-choose.ensures.1 in
    let inside : c.loop-at.at < length (g.P.Projected.ranks c.args.base.now) = omega (arith, c.loop-at-test.true, c.len-at-end.ensures) in
    let now = c.loop-at.mined in
    let one : Counted = record { set = with_item c.item-item.result (set_at now.sets c.args.index); count = c.support-support.result } in
    record {
      done = fails _ _ _ _ _ _ p.0 p.1
          (λ node is.
          let turn = turn_at g.P.Projected.ranks g.met.P.Projected.ranks_are is c.loop-at.at inside in
          let part = c.loop-at.invariant.found node is in
          let within = turn_within turn _ _ part in
          let many = bounds turn (c.requires.straight node is.given) part c.loop-at.invariant.start c.len-end.ensures in
          let more = ap length c.in_ok-add_longer.ensures.sets ∙ length-append now.sets (one ∷ []) in (
            λ limit e. (let (same, why) = c.choose.ensures.too_many limit (c.in_err-choose.was ∙ ap Err (sym p.2 ∙ e)) in
                record { limit_is = same ∙ c.add_longer.ensures.limit ∙ c.loop-at.invariant.limit; why = elim why [ inl done ↦ inl done | inr less ↦ inr (omega (arith, within.1, less, many, more)) ] }),
            omega (arith, within.0, c.in_ok-add_longer.ensures.told, c.choose.ensures.at_most, many),
          ))
          (c.choose.ensures.limit ∙ c.add_longer.ensures.limit ∙ c.loop-at.invariant.limit);
    }

pub loop-at-preserved : goal.loop-at-preserved
loop-at-preserved g c =
    let inside : c.loop-at.at < length (g.P.Projected.ranks c.args.base.now) = omega (arith, c.loop-at-test.true, c.len-at-end.ensures) in
    let rank = get_or (g.P.Projected.ranks c.args.base.now) c.loop-at.at 0 in
    let now = c.loop-at.mined in
    let one : Counted = record { set = with_item c.item-item.result (set_at now.sets c.args.index); count = c.support-support.result } in
    let at = reached g.P.Projected.number g.T.Tally.told_of g.T.Tally.limit_of g.T.Tally.is_over in
    let with_one = at c.add_longer.new.self c.add_longer.new.tally in
    let found : (node : Node) → IsOf g.P.Projected.gives c.args.base.now (set_at c.args.mined.now.sets c.args.index) node
    → FindsPart node (c.loop-at.at + 1) (at c.args.mined.now c.args.tally.now) (at c.choose.new.mined c.choose.new.tally)
    = λ node is.
    let turn = turn_at g.P.Projected.ranks g.met.P.Projected.ranks_are is c.loop-at.at inside in
    let straight = c.requires.straight node is.given in
    let part = c.loop-at.invariant.found node is in
    let none = free_one turn straight in
    let adds = adds_one one (node.over.work (rank ∷ node.set)) (at now c.loop-at.tally) with_one c.in_ok-add_longer.ensures.sets
    (omega (arith, none, ap g.P.Projected.number c.add_longer.ensures.steps)) c.in_ok-add_longer.ensures.told c.in_ok-add_longer.ensures.going_on (omega (arith, none)) c.loop-at.invariant.going in
    let all = extended turn c.args.index c.requires.found refl (c.item-item.ensures node is.given) (c.support-support.ensures node is.given) part
    c.in_ok-add_longer.ensures.index c.in_ok-add_longer.ensures.sets in
    let below = read_more turn straight part c.loop-at.invariant.start c.len-end.ensures {with_one = with_one} {after = at c.choose.new.mined c.choose.new.tally} one (c.item-item.ensures node is.given) (c.support-support.ensures node is.given)
    c.in_ok-add_longer.ensures.sets adds.going c.in_ok-choose.ensures.sets (ap g.P.Projected.number c.choose.ensures.steps) c.in_ok-choose.ensures.told c.in_ok-choose.ensures.going_on in
    turn_adds turn one _ (at now c.loop-at.tally) with_one _ all.found part adds below
    in
    let (known, first) = c.requires.given in
    record {
      start = c.loop-at.invariant.start;
      limit = c.choose.ensures.limit ∙ c.add_longer.ensures.limit ∙ c.loop-at.invariant.limit;
      going = (found known first).going;
      found = found;
    }

pub returns : goal.returns
returns g c =
    let last : length (g.P.Projected.ranks c.args.base.now) ≤ c.loop-at.at = omega (arith, c.loop-at-test.false, c.len-at-end.ensures) in
    record {
      done = record {
        found = λ node is. part_is_all node c.loop-at.at _ _ (subst (λ l. length l ≤ c.loop-at.at) (g.met.P.Projected.ranks_are c.args.base.now node is.given) last) (c.loop-at.invariant.found node is);
        too_many = λ limit e. absurd cc;
        at_most = λ node is. part_at_most node c.loop-at.at _ _ (c.loop-at.invariant.found node is);
        limit = c.loop-at.invariant.limit;
      };
    }
