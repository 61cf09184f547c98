use Rattle.std.proofs.Common.{◌≤◌, Ok, length, subst, arith}
use Rattle.std.proofs.lemmas.Grind.{common_steps}
use Rattle.std.proofs.lemmas.Result.{err_from_is_err_and}
use Rattle.basket_read.specs.Fault.{IsDefined}
use Rattle.basket_read.specs.Fimi.{MOST_BYTES}
use Rattle.basket_csv.proofs.ReadLemmas.{all_kept, reads}
use Rattle.basket_csv.proofs.read.read_baskets.Goals as goal

pub returns-in_err-counts-clause-read : goal.returns-in_err-counts-clause-read
returns-in_err-counts-clause-read g c = grind (arith, common_steps, err_from_is_err_and, reads)

pub returns-clause-read : goal.returns-clause-read
returns-clause-read g c =
    reads IsDefined _ _ _ _ _ (Ok (c.in_ok-counts.counts.rest, c.in_ok-counts.names)) c.deref-2.ensures.value c.in_ok-bytes.ensures.taken tt (all_kept _ _ c.in_ok-counts.ensures.said)

pub returns-clause-ended : goal.returns-clause-ended
returns-clause-ended g c = c.in_ok-bytes.ensures.ended (subst (λ l. length l ≤ MOST_BYTES) c.deref-2.ensures.value c.in_ok-counts.ensures.within)
