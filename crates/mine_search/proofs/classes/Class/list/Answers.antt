use Rattle.std.proofs.Common.{Err, length, subst, sym, ap, ◌∙◌, inl, inr, arith}
use Rattle.std.proofs.lemmas.List.{length-map}
use Rattle.std.proofs.lemmas.Option.{none-some, same_Some}
use Rattle.std.proofs.lemmas.Result.{err_from_is_err_and}
use Rattle.mine_classes.proofs.theory.Mined.{mining_fails}
use Rattle.mine_search.specs.Class.{IsClass, class_sets, of_rank}
use Rattle.mine_search.specs.Node.{Supports, sets_at}
use Rattle.mine_search.specs.Search.{FindsAll, GoesOn, IsOf, found_at, reached}
use Rattle.mine_search.proofs.ClassLemmas.{IsFirst, all_found, first_is, is_frequent_rank}
use Rattle.mine_search.proofs.NodeLemmas.{finds_none}
use Rattle.mine_search.proofs.theory.Class.{as_many, class_some, lists}
use Rattle.mine_search.proofs.classes.Class.list.Goals as goal
use Rattle.mine_search.proofs.classes.Class.list.Goals.{in-Some+in_ok-extend, in_default}

pub returns-in_err-add-clause-class : goal.returns-in_err-add-clause-class
returns-in_err-add-clause-class g c =
    let (over, is) = c.requires.class in
    let some = class_some is.over_coding c.args.self.rank (is_frequent_rank is) in
    let p = err_from_is_err_and c.from_residual-in_err-add.result c.from_residual-in_err-add.ensures.1 in
    mining_fails p.1
    (λ limit e.
    let (limit_is, why) = c.in_err-add.ensures.too_many limit (ap Err (sym p.2 ∙ e)) in
    (limit_is, elim why [ inl done ↦ inl done | inr less ↦ inr (omega (arith, less, some, ap length c.in_ok-mined.ensures.sets)) ]))
    (omega (arith, some, c.add.ensures.told)) c.add.ensures.limit

pub extend-requires-clause-given : goal.extend-requires-clause-given
extend-requires-clause-given g c =
    let (over, is) = c.requires.class in
    let first = first_is is.over_coding c.args.self.rank c.requires.rank c.in_ok-mined.ensures.sets c.in_ok-add.ensures.sets c.in_ok-set.ensures.ok c.item.ensures is.supported in
    (of_rank over c.args.self.rank, record { given = is.some c.in-Some.inner c.in-Some.is; is = first.inner })

pub returns-in_err-extend-clause-class : goal.returns-in_err-extend-clause-class
returns-in_err-extend-clause-class g c =
    let (over, is) = c.requires.class in
    let first = first_is is.over_coding c.args.self.rank c.requires.rank c.in_ok-mined.ensures.sets c.in_ok-add.ensures.sets c.in_ok-set.ensures.ok c.item.ensures is.supported in
    let many = as_many is.over_coding c.args.self.rank (is_frequent_rank is) in
    let p = err_from_is_err_and c.from_residual-in_err-extend.result c.from_residual-in_err-extend.ensures.1 in
    let inner : IsOf g.P.Projected.gives c.in-Some.inner _ (of_rank over c.args.self.rank) = record { given = is.some c.in-Some.inner c.in-Some.is; is = first.inner } in
    mining_fails p.1
    (λ limit e.
    let too = c.in_err-extend.ensures.done.too_many limit (ap Err (sym p.2 ∙ e)) _ inner in
    (too.limit_is ∙ c.add.ensures.limit, elim too.why [ inl done ↦ inl done | inr less ↦ inr (omega (arith, less, many, ap length first.first)) ]))
    (let most = c.extend.ensures.done.at_most _ inner in omega (arith, most, many, c.add.ensures.told)) (c.extend.ensures.done.limit ∙ c.add.ensures.limit)

pub returns : goal.returns
returns g c =
    let rank = c.args.self.rank in
    let at = reached g.P.Projected.number g.T.Tally.told_of g.T.Tally.limit_of g.T.Tally.is_over in
    let mid = at c.add.new.self c.add.new.tally in
    let after = at c.match-below-4.mined c.match-below-4.tally in
    let first : (over : Supports) → IsClass g.P.Projected.gives c.args.coded.now rank c.args.self.support c.args.self.below over → IsFirst over rank mid.sets
    = λ over is. first_is is.over_coding rank c.requires.rank c.in_ok-mined.ensures.sets c.in_ok-add.ensures.sets c.in_ok-set.ensures.ok c.item.ensures is.supported in
    let (known, class) = c.requires.class in
    let going : GoesOn mid = record { going = c.in_ok-add.ensures.going_on; few = omega (arith, ap g.P.Projected.number c.add.ensures.steps, ap g.P.Projected.number c.in_ok-mined.ensures.steps, c.requires.few, ap length (first known class).first) } in
    let found : (over : Supports) → IsClass g.P.Projected.gives c.args.coded.now rank c.args.self.support c.args.self.below over → FindsAll mid after (of_rank over rank)
    = λ over is. elim c.match-below-4.branch [
      | in-Some+in_ok-extend w ↦
          subst (λ m. FindsAll mid (at m c.match-below-4.tally) (of_rank over rank)) (sym w.mined-is)
          (subst (λ s. FindsAll mid (at w.extend.new.mined s) (of_rank over rank)) (sym w.tally-is)
          (w.in_ok-extend.ensures.done.found (of_rank over rank) (record { given = is.some w.in-Some.inner w.in-Some.is; is = (first over is).inner })))
      | in_default w ↦
          subst (λ m. FindsAll mid (at m c.match-below-4.tally) (of_rank over rank)) (sym w.mined-is)
          (subst (λ s. FindsAll mid (at c.add.new.self s) (of_rank over rank)) (sym w.tally-is)
          (finds_none (of_rank over rank) (is.none w.in_default.is) mid going))
    ] in
    let all = all_found class.over_coding rank (first known class) (found known class) in
    let many = as_many class.over_coding rank (is_frequent_rank class) in
    let long = ap length all ∙ length-map (class_sets known rank) (found_at known) in
    record {
      class = (let f = found known class in record {
        listed = lists class.over_coding rank (is_frequent_rank class) c.match-below-4.mined.sets all;
        few = omega (arith, f.going.few, long, many);
        told = omega (arith, f.told, c.add.ensures.told, long, length-map (sets_at (of_rank known rank)) (found_at known));
        going_on = f.going.going;
        too_many = λ limit e. absurd cc;
        at_most = omega (arith, f.told, c.add.ensures.told, many, length-map (sets_at (of_rank known rank)) (found_at known));
        limit = elim c.match-below-4.branch [
          | in-Some+in_ok-extend w ↦ ap (λ tally. g.T.Tally.limit_of tally) w.tally-is ∙ w.extend.ensures.done.limit ∙ c.add.ensures.limit
          | in_default w ↦ ap (λ tally. g.T.Tally.limit_of tally) w.tally-is ∙ c.add.ensures.limit
        ];
      });
      work = λ over is. omega (arith, c.number_of-work.ensures, (found over is).worked, ap g.P.Projected.number c.add.ensures.steps, ap g.P.Projected.number c.in_ok-mined.ensures.steps);
      lent = λ inner is. elim c.match-below-4.branch [
        | in-Some+in_ok-extend w ↦
            subst (λ base. g.P.Projected.keeps base c.args.scratch.now c.match-below-4.scratch) (same_Some w.in-Some.inner inner (sym w.in-Some.is ∙ is))
            (subst (λ s. g.P.Projected.keeps w.in-Some.inner c.args.scratch.now s) (sym w.scratch-is)
            (g.met.P.Projected.used_twice w.in-Some.inner _ _ _ w.in_ok-extend.ensures.lent w.give_back.ensures))
        | in_default w ↦ subst (λ s. g.P.Projected.keeps inner c.args.scratch.now s) (sym w.scratch-is) (g.met.P.Projected.unused inner c.args.scratch.now)
      ];
      alone = λ none. elim c.match-below-4.branch [
        | in-Some+in_ok-extend w ↦ absurd (none-some w.in-Some.inner (sym none ∙ w.in-Some.is))
        | in_default w ↦ w.scratch-is
      ];
    }
