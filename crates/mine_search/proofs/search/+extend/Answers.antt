use Rattle.std.proofs.Common.{◌≤◌, ◌<◌, refl, ◌+◌, ◌∷◌, [], Err, length, get_or, subst, sym, ap, ◌∙◌, inl, inr, arith, length-append}
use Rattle.std.proofs.lemmas.Result.{err_from_is_err_and}
use Rattle.basket_sets.specs.Itemset.{with_item}
use Rattle.basket_sets.specs.declared.counted.Counted.{Counted}
use Rattle.basket_lists.specs.CountedSets.{set_at}
use Rattle.mine_search.specs.Node.{Node, child}
use Rattle.mine_search.specs.Search.{FindsAll, IsOf, reached}
use Rattle.mine_search.proofs.NodeLemmas.{FindsPart, adds_one, extended, fails, fewer, finds_none, part_at_most, part_is_all, turn_adds, turn_at, turn_within}
use Rattle.mine_search.proofs.search.+extend.Goals as goal
use Rattle.mine_search.proofs.search.+extend.Goals.{in-Some+in_ok-extend, in_default}

pub returns-in_err-longer-clause-done : goal.returns-in_err-longer-clause-done
returns-in_err-longer-clause-done g t c =
    let p = err_from_is_err_and c.from_residual.result c.from_residual.ensures.1 in
    let inside : c.loop-at.at < length (g.P.Projected.ranks c.args.base.now) = omega (arith, c.loop-at-test.true, c.len-at-end.ensures) in
    fails _ _ _ _ _ _ p.0 p.1
    (λ node is.
    let turn = turn_at g.P.Projected.ranks g.met.P.Projected.ranks_are is c.loop-at.at inside in
    let within = turn_within turn _ _ (c.loop-at.invariant.found node is) in (
      λ limit e. (let (same, why) = c.add_longer.ensures.too_many limit (c.in_err-longer.was ∙ ap Err (sym p.2 ∙ e)) in
          record { limit_is = same ∙ c.loop-at.invariant.limit; why = elim why [ inl done ↦ inl done | inr less ↦ inr (omega (arith, within.1, less)) ] }),
      omega (arith, within.0, c.add_longer.ensures.at_most),
    ))
    (c.add_longer.ensures.limit ∙ c.loop-at.invariant.limit)

pub returns-in_err-below-clause-done : goal.returns-in_err-below-clause-done
returns-in_err-below-clause-done g t c =
    let p = err_from_is_err_and c.from_residual-in_err-below.result c.from_residual-in_err-below.ensures.1 in
    let inside : c.loop-at.at < length (g.P.Projected.ranks c.args.base.now) = omega (arith, c.loop-at-test.true, c.len-at-end.ensures) in
    fails _ _ _ _ _ _ p.0 p.1
    (λ node is.
    let turn = turn_at g.P.Projected.ranks g.met.P.Projected.ranks_are is c.loop-at.at inside in
    let within = turn_within turn _ _ (c.loop-at.invariant.found node is) in (λ limit e. absurd (let other = sym p.2 ∙ e in cc), omega (arith, within.0, c.in_ok-longer.ensures.told)))
    (c.add_longer.ensures.limit ∙ c.loop-at.invariant.limit)

pub extend-requires : goal.extend-requires
extend-requires g t c = λ κs lives.
    let (node, is) = c.requires.given in
    let inside : c.loop-at.at < length (g.P.Projected.ranks c.args.base.now) = omega (arith, c.loop-at-test.true, c.len-at-end.ensures) in
    let rank = get_or (g.P.Projected.ranks c.args.base.now) c.loop-at.at 0 in
    let turn = turn_at g.P.Projected.ranks g.met.P.Projected.ranks_are is c.loop-at.at inside in
    let now = c.loop-at.mined in
    let one : Counted = record { set = with_item c.item-item.result (set_at now.sets c.args.index); count = c.support-support.result } in
    let at = reached g.P.Projected.number g.T.Tally.told_of g.T.Tally.limit_of g.T.Tally.is_over in
    let with_one = at (record { sets = c.add_longer.new.self.sets; steps = c.projected.new.steps }) c.add_longer.new.tally in
    let adds = adds_one one (node.over.work (rank ∷ node.set)) (at now c.loop-at.tally) with_one c.in_ok-longer.ensures.sets
    (omega (arith, c.in_ok-below.ensures.work node is.given, ap g.P.Projected.number c.add_longer.ensures.steps)) c.in_ok-longer.ensures.told c.in_ok-longer.ensures.going_on
    (omega (arith, c.in_ok-below.ensures.work node is.given, c.in_ok-below.ensures.little)) c.loop-at.invariant.going in
    let below = extended turn c.args.index c.requires.found refl (c.item-item.ensures node is.given) (c.support-support.ensures node is.given) (c.loop-at.invariant.found node is)
    c.in_ok-longer.ensures.index c.in_ok-longer.ensures.sets in
    let inner : g.P.Projected.gives c.in-Some.inner (child node rank) = (rw c.in-Some.is at c.in_ok-below.ensures.below) node is.given in
    let less = fewer turn in
    let more = ap length c.in_ok-longer.ensures.sets ∙ length-append now.sets (one ∷ []) in
    (omega (arith, c.decreases, less, ap length (g.met.P.Projected.ranks_are c.in-Some.inner (child node rank) inner), ap length (g.met.P.Projected.ranks_are c.args.base.now node is.given)), (lives.0, (lives.1.0, (lives.1.1.0, (lives.1.1.1, (omega (arith, c.in_ok-longer.ensures.index, more), ((child node rank, record { given = inner; is = below.inner }), (adds.going, rw c.in-Some.is at c.in_ok-below.ensures.inner))))))))

pub returns-in_err-extend-clause-done : goal.returns-in_err-extend-clause-done
returns-in_err-extend-clause-done g t c =
    let p = err_from_is_err_and c.from_residual-in_err-extend.result c.from_residual-in_err-extend.ensures.1 in
    let inside : c.loop-at.at < length (g.P.Projected.ranks c.args.base.now) = omega (arith, c.loop-at-test.true, c.len-at-end.ensures) in
    let rank = get_or (g.P.Projected.ranks c.args.base.now) c.loop-at.at 0 in
    let now = c.loop-at.mined in
    let one : Counted = record { set = with_item c.item-item.result (set_at now.sets c.args.index); count = c.support-support.result } in
    let done = c.extend.ensures.done in
    fails _ _ _ _ _ _ p.0 p.1
    (λ node is.
    let turn = turn_at g.P.Projected.ranks g.met.P.Projected.ranks_are is c.loop-at.at inside in
    let part = c.loop-at.invariant.found node is in
    let below = extended turn c.args.index c.requires.found refl (c.item-item.ensures node is.given) (c.support-support.ensures node is.given) part
    c.in_ok-longer.ensures.index c.in_ok-longer.ensures.sets in
    let inner : IsOf g.P.Projected.gives c.in-Some.inner _ (child node rank) = record { given = (rw c.in-Some.is at c.in_ok-below.ensures.below) node is.given; is = below.inner } in
    let within = turn_within turn _ _ part in
    let more = ap length c.in_ok-longer.ensures.sets ∙ length-append now.sets (one ∷ []) in (
      λ limit e. (let many = done.too_many limit (c.in_err-extend.was ∙ ap Err (sym p.2 ∙ e)) (child node rank) inner in
          record { limit_is = many.limit_is ∙ c.add_longer.ensures.limit ∙ c.loop-at.invariant.limit; why = elim many.why [ inl done ↦ inl done | inr less ↦ inr (omega (arith, within.1, less, more)) ] }),
      omega (arith, within.0, c.in_ok-longer.ensures.told, done.at_most (child node rank) inner),
    ))
    (done.limit ∙ c.add_longer.ensures.limit ∙ c.loop-at.invariant.limit)

pub loop-at-preserved : goal.loop-at-preserved
loop-at-preserved g t c =
    let inside : c.loop-at.at < length (g.P.Projected.ranks c.args.base.now) = omega (arith, c.loop-at-test.true, c.len-at-end.ensures) in
    let rank = get_or (g.P.Projected.ranks c.args.base.now) c.loop-at.at 0 in
    let now = c.loop-at.mined in
    let one : Counted = record { set = with_item c.item-item.result (set_at now.sets c.args.index); count = c.support-support.result } in
    let at = reached g.P.Projected.number g.T.Tally.told_of g.T.Tally.limit_of g.T.Tally.is_over in
    let with_one = at (record { sets = c.add_longer.new.self.sets; steps = c.projected.new.steps }) c.add_longer.new.tally in
    let found : (node : Node) → IsOf g.P.Projected.gives c.args.base.now (set_at c.args.mined.now.sets c.args.index) node
    → FindsPart node (c.loop-at.at + 1) (at c.args.mined.now c.args.tally.now) (at c.match-below.mined c.match-below.tally)
    = λ node is.
    let turn = turn_at g.P.Projected.ranks g.met.P.Projected.ranks_are is c.loop-at.at inside in
    let part = c.loop-at.invariant.found node is in
    let adds = adds_one one (node.over.work (rank ∷ node.set)) (at now c.loop-at.tally) with_one c.in_ok-longer.ensures.sets
    (omega (arith, c.in_ok-below.ensures.work node is.given, ap g.P.Projected.number c.add_longer.ensures.steps)) c.in_ok-longer.ensures.told c.in_ok-longer.ensures.going_on
    (omega (arith, c.in_ok-below.ensures.work node is.given, c.in_ok-below.ensures.little)) c.loop-at.invariant.going in
    let all = extended turn c.args.index c.requires.found refl (c.item-item.ensures node is.given) (c.support-support.ensures node is.given) part
    c.in_ok-longer.ensures.index c.in_ok-longer.ensures.sets in
    let below : FindsAll with_one (at c.match-below.mined c.match-below.tally) (child node rank) = elim c.match-below.branch [
      | in-Some+in_ok-extend w ↦
          subst (λ m. FindsAll with_one (at m c.match-below.tally) (child node rank)) (sym w.mined-is)
          (subst (λ s. FindsAll with_one (at w.extend.new.mined s) (child node rank)) (sym w.tally-is)
          (w.in_ok-extend.ensures.done.found (child node rank) (record { given = (rw w.in-Some.is at c.in_ok-below.ensures.below) node is.given; is = all.inner })))
      | in_default w ↦
          subst (λ m. FindsAll with_one (at m c.match-below.tally) (child node rank)) (sym w.mined-is)
          (subst (λ s. FindsAll with_one (at (record { sets = c.add_longer.new.self.sets; steps = c.projected.new.steps }) s) (child node rank)) (sym w.tally-is)
          (finds_none (child node rank) ((rw w.in_default.is at c.in_ok-below.ensures.none) node is.given) with_one adds.going))
    ] in
    turn_adds turn one _ (at now c.loop-at.tally) with_one _ all.found part adds below
    in
    let (known, first) = c.requires.given in
    record {
      lent = elim c.match-below.branch [
        | in-Some+in_ok-extend w ↦
            (let wider = rw w.in-Some.is at c.in_ok-below.ensures.wider in
            let both = g.met.P.Projected.used_twice c.args.base.now in
            subst (λ s. g.P.Projected.keeps c.args.base.now c.args.scratch.now s) (sym w.scratch-is)
            (both _ _ _ (both _ _ _ c.loop-at.invariant.lent c.in_ok-below.ensures.lent) (both _ _ _ (wider _ _ w.in_ok-extend.ensures.lent) (wider _ _ w.give_back.ensures))))
        | in_default w ↦
            subst (λ s. g.P.Projected.keeps c.args.base.now c.args.scratch.now s) (sym w.scratch-is)
            (g.met.P.Projected.used_twice c.args.base.now _ _ _ c.loop-at.invariant.lent c.in_ok-below.ensures.lent)
      ];
      limit = elim c.match-below.branch [
        | in-Some+in_ok-extend w ↦ ap (λ tally. g.T.Tally.limit_of tally) w.tally-is ∙ w.extend.ensures.done.limit ∙ c.add_longer.ensures.limit ∙ c.loop-at.invariant.limit
        | in_default w ↦ ap (λ tally. g.T.Tally.limit_of tally) w.tally-is ∙ c.add_longer.ensures.limit ∙ c.loop-at.invariant.limit
      ];
      going = (found known first).going;
      found = found;
    }

pub returns-clause-done : goal.returns-clause-done
returns-clause-done g t c =
    let last : length (g.P.Projected.ranks c.args.base.now) ≤ c.loop-at.at = omega (arith, c.loop-at-test.false, c.len-at-end.ensures) in record {
      found = λ node is. part_is_all node c.loop-at.at _ _ (subst (λ l. length l ≤ c.loop-at.at) (g.met.P.Projected.ranks_are c.args.base.now node is.given) last) (c.loop-at.invariant.found node is);
      too_many = λ limit e. absurd cc;
      at_most = λ node is. part_at_most node c.loop-at.at _ _ (c.loop-at.invariant.found node is);
      limit = c.loop-at.invariant.limit;
    }
