use Rattle.std.proofs.Common.{arith}
use Rattle.std.proofs.lemmas.Grind.{common_steps}
use Rattle.std.proofs.lemmas.List.{length-append}
use Rattle.mine_apriori.proofs.LevelsLemmas.{too_many}
use Rattle.mine_apriori.proofs.WorkLemmas.{candidates_next}
use Rattle.mine_apriori.proofs.levels.KnownLevels.ask.Goals as goal

pub returns-then-len-limit-clause-too_many : goal.returns-then-len-limit-clause-too_many
returns-then-len-limit-clause-too_many g c most e =
    (cc, too_many c.args.self.coded.now c.requires.coding c.args.self.size c.args.limit c.args.self.found c.requires.found (omega (arith, c.if-len-limit.true, c.len.ensures)))

pub invariant_of-result : goal.invariant_of-result
invariant_of-result g c = grind (arith, common_steps, candidates_next, length-append)
