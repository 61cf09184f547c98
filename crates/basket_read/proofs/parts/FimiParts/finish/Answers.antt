use Rattle.std.proofs.Common.{false}
use Rattle.basket_read.specs.Fimi.{fimi_of}
use Rattle.basket_read.proofs.PartsLemmas.{answer_told, kept_answers}
use Rattle.basket_read.proofs.parts.FimiParts.finish.Goals as goal

pub returns-in-Some-clause-exact : goal.returns-in-Some-clause-exact
returns-in-Some-clause-exact c = λ bytes fed _. answer_told bytes c.in-Some.fault (rw c.in-Some.is at fed)

pub returns-clause-exact : goal.returns-clause-exact
returns-clause-exact c = λ bytes fed.
    kept_answers c.finish.result c.map.result (fimi_of bytes) c.map.ensures.cases (c.finish.ensures false bytes (rw c.in_default.is at fed))
