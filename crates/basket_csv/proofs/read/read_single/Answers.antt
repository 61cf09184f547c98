use Rattle.std.proofs.Common.{◌≤◌, length, subst}
use Rattle.std.proofs.lemmas.Result.{on_ok_weaker}
use Rattle.basket_read.specs.Fimi.{MOST_BYTES}
use Rattle.basket_csv.proofs.ReadLemmas.{reads}
use Rattle.basket_csv.proofs.read.read_single.Goals as goal

pub returns-clause-read : goal.returns-clause-read
returns-clause-read g c = reads _ _ _ _ _ _ _ c.deref-2.ensures.value c.in_ok-bytes.ensures.taken c.say.ensures.not_read c.say.ensures.said

pub returns-clause-ended : goal.returns-clause-ended
returns-clause-ended g c = on_ok_weaker c.say.result (λ short. c.in_ok-bytes.ensures.ended (subst (λ l. length l ≤ MOST_BYTES) c.deref-2.ensures.value short)) c.say.ensures.within
