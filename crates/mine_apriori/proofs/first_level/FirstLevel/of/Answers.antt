use Rattle.std.proofs.Common.{arith}
use Rattle.mine_apriori.proofs.LevelsLemmas.{too_many}
use Rattle.mine_apriori.proofs.first_level.FirstLevel.of.Goals as goal

pub returns-then-len-limit-clause-too_many : goal.returns-then-len-limit-clause-too_many
returns-then-len-limit-clause-too_many c most e =
    (cc, too_many c.args.coded.now c.in_ok-found.ensures.coding 1 c.args.limit c.in_ok-found.found c.in_ok-found.ensures.found (omega (arith, c.if-len-limit.true, c.len.ensures)))
