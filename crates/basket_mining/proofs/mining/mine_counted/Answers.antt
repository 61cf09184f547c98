use Rattle.std.proofs.Common.{◌<◌, arith, length, subst}
use Rattle.basket_mining.specs.Mining.{work_of}
use Rattle.basket_mining.proofs.MiningLemmas.{list_is, sets_are, settled, totals_are, work_is}
use Rattle.basket_mining.proofs.mining.mine_counted.Goals as goal

pub returns-then-branch-clause-too_many : goal.returns-then-branch-clause-too_many
returns-then-branch-clause-too_many g c most e =
    let database = c.args.database in
    let question = c.args.plan.now.question in
    let more = settled database question.minimum c.in_ok-coded.coded c.in_ok-coded.ensures c.settling_size.result c.limit-limit.result c.settling_size.ensures.settles (c.in_ok-deep.ensures c.if-branch.true) in
    (cc, omega (arith, more, c.limit-limit.ensures))

pub returns-clause-sets : goal.returns-clause-sets
returns-clause-sets g c = sets_are c.args.database c.args.plan.now.question.minimum c.in_ok-coded.coded c.in_ok-coded.ensures c.mine_coded.result c.mine_coded.ensures.list

pub returns-clause-total : goal.returns-clause-total
returns-clause-total g c = totals_are c.args.database c.args.plan.now.question.minimum c.in_ok-coded.coded c.in_ok-coded.ensures c.mine_coded.result c.mine_coded.ensures.list

pub returns-clause-work : goal.returns-clause-work
returns-clause-work g c =
    work_is c.args.database c.args.plan.now.question.minimum c.in_ok-coded.coded c.in_ok-coded.ensures (work_of c.args.plan.now.miner) c.mine_coded.result c.mine_coded.ensures.work

pub returns-clause-too_many : goal.returns-clause-too_many
returns-clause-too_many g c most e =
    let question = c.args.plan.now.question in
    let told = c.mine_coded.ensures.too_many most e in
    (told.0, subst (λ sets. question.limit < length sets) (list_is c.args.database question.minimum c.in_ok-coded.coded c.in_ok-coded.ensures) told.1)
