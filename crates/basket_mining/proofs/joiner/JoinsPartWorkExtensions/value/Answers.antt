use Rattle.std.proofs.Common.{arith}
use Rattle.std.proofs.lemmas.Grind.{common_steps}
use Rattle.basket_mining.proofs.joiner.JoinsPartWorkExtensions.value.Goals as goal

pub candidates_in-requires-clause-grouped : goal.candidates_in-requires-clause-grouped
candidates_in-requires-clause-grouped c = record { size = _; sized = c.args.self.now.sized; sorted = c.args.self.now.sorted }

pub returns-clause-value : goal.returns-clause-value
returns-clause-value c = grind (arith, common_steps)
