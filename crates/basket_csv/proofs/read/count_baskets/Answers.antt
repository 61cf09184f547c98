use Rattle.std.proofs.Common.{◌≤◌, true, length, subst}
use Rattle.std.proofs.lemmas.Result.{on_ok_weaker}
use Rattle.basket_read.specs.Fimi.{MOST_BYTES}
use Rattle.basket_csv.proofs.ReadLemmas.{counted, reads}
use Rattle.basket_csv.proofs.read.count_baskets.Goals as goal

pub returns-clause-counted : goal.returns-clause-counted
returns-clause-counted g c =
    let (read, light) = counted true c.say.result _ c.say.ensures.said in
    reads _ _ _ _ _ _ _ c.deref.ensures.value c.in_ok-bytes.ensures.taken c.say.ensures.not_read read

pub returns-clause-ended : goal.returns-clause-ended
returns-clause-ended g c = on_ok_weaker c.say.result (λ short. c.in_ok-bytes.ensures.ended (subst (λ l. length l ≤ MOST_BYTES) c.deref.ensures.value short)) c.say.ensures.within

pub returns-clause-light : goal.returns-clause-light
returns-clause-light g c = (counted true c.say.result _ c.say.ensures.said).1
