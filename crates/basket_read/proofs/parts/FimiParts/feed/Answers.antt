use Rattle.std.proofs.Common.{false, ◌++◌, Err, ap, arith}
use Rattle.std.proofs.lemmas.Grind.{common_steps}
use Rattle.basket_read.proofs.InputLemmas.{settled_stays, faultless_input}
use Rattle.basket_read.proofs.parts.FimiParts.feed.Goals as goal

pub returns-in-Some-clause-exact : goal.returns-in-Some-clause-exact
returns-in-Some-clause-exact c = λ bytes fed _. settled_stays bytes c.args.piece.now c.in-Some.fault (rw c.in-Some.is at fed)

pub returns-in-Some-clause-fed : goal.returns-in-Some-clause-fed
returns-in-Some-clause-fed c = λ bytes fed _.
    rw c.in-Some.is
    (settled_stays bytes c.args.piece.now c.in-Some.fault (rw c.in-Some.is at fed))

pub returns-in-Ok-clause-exact : goal.returns-in-Ok-clause-exact
returns-in-Ok-clause-exact c = λ bytes fed.
    faultless_input c.take.new.self false (bytes ++ c.args.piece.now) (c.in-Ok.ensures false bytes (rw c.in_default.is at fed))

pub returns-in-Ok-clause-fed : goal.returns-in-Ok-clause-fed
returns-in-Ok-clause-fed c = λ bytes fed _. grind (arith, common_steps)

pub returns-in-Err-clause-exact : goal.returns-in-Err-clause-exact
returns-in-Err-clause-exact c = λ bytes fed. c.in-Err.ensures false bytes (rw c.in_default.is at fed)

pub returns-in-Err-clause-fed : goal.returns-in-Err-clause-fed
returns-in-Err-clause-fed c = λ bytes fed no_memory.
    c.in-Err.ensures false bytes (rw c.in_default.is at fed) (λ e. no_memory (ap Err e))
