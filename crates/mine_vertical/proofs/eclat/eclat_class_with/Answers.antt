use Rattle.std.proofs.Common.{◌≤◌, length, subst, sym, refl, arith}
use Rattle.std.proofs.lemmas.Result.{IfOk-weaker}
use Rattle.basket_ranks.specs.Codes.{Coding}
use Rattle.mine_classes.specs.Mined.{MinesClass}
use Rattle.mine_classes.proofs.theory.Mined.{mining_none}
use Rattle.mine_vertical.proofs.ClassLemmas.{class_is, joins_are, over, rare, rare_rank}
use Rattle.mine_vertical.proofs.eclat.eclat_class_with.Goals as goal

pub returns-then-support-least-clause-class : goal.returns-then-support-least-clause-class
returns-then-support-least-clause-class g c =
    let not = rare c.args.vertical.now c.least-least.result c.runs-runs.result.now.baskets c.least-least.ensures c.runs-runs.ensures.weights c.args.rank (omega (arith, c.if-support-least.true, c.support-support.ensures)) in
    mining_none not c.in_ok-none.ensures c.requires.going

pub returns-then-support-least-clause-joins : goal.returns-then-support-least-clause-joins
returns-then-support-least-clause-joins g c = λ each.
    absurd (rare_rank c.args.vertical.now c.least-least.result c.runs-runs.result.now.baskets c.least-least.ensures c.runs-runs.ensures.weights c.args.rank each c.requires.rank
    (omega (arith, c.if-support-least.true, c.support-support.ensures)))

pub list-requires-clause-class : goal.list-requires-clause-class
list-requires-clause-class g c =
    let coding = c.args.vertical.now in
    let least = c.least-least.result in
    let all = c.runs-runs.result.now.baskets in
    let long : length c.in_ok-local.siblings.items ≤ c.len.result = omega (arith, c.len.ensures) in
    let are = c.in_ok-local.ensures.siblings in (
      over coding least,
      class_is coding least all c.least-least.ensures c.runs-runs.ensures.weights g.R.Row.stands _ c.args.rank c.in_ok-local.local c.coded-coded.ensures.coding are
          c.coded-coded.ensures.coded refl (sym c.in_ok-new.ensures.ok) long c.requires.rank c.support-support.result c.support-support.ensures (omega (arith, c.if-support-least.false)),
    )

pub returns-clause-joins : goal.returns-clause-joins
returns-clause-joins g c =
    let coding = c.args.vertical.now in
    let least = c.least-least.result in
    let all = c.runs-runs.result.now.baskets in
    let long : length c.in_ok-local.siblings.items ≤ c.len.result = omega (arith, c.len.ensures) in
    let are = c.in_ok-local.ensures.siblings in
    IfOk-weaker c.list.result _ _ (λ mined work each.
    let is = work (over coding least)
    (class_is coding least all c.least-least.ensures c.runs-runs.ensures.weights g.R.Row.stands _ c.args.rank c.in_ok-local.local c.coded-coded.ensures.coding are
    c.coded-coded.ensures.coded refl (sym c.in_ok-new.ensures.ok) long c.requires.rank c.support-support.result c.support-support.ensures (omega (arith, c.if-support-least.false))) in
    let joins = joins_are coding least all c.least-least.ensures c.runs-runs.ensures.weights c.args.rank each c.requires.rank in
    omega (arith, is, joins, c.in_ok-local.ensures.joins, c.none-joins.ensures)) c.list.ensures.work

pub returns-clause-class : goal.returns-clause-class
returns-clause-class g c = subst (λ (v : Coding). MinesClass g.T.Tally.told_of g.T.Tally.limit_of g.T.Tally.is_over v c.args.rank c.args.tally.now c.list.new.tally c.list.result) c.coded-coded.ensures.coded c.list.ensures.class
