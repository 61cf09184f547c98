use Rattle.mine_round.proofs.Runs.{lawful-from_opening}
use Rattle.mine_round.proofs.laws.rounds_stay_lawful.Goals as goal

pub returns-clause-lawful : goal.returns-clause-lawful
returns-clause-lawful c = lawful-from_opening
