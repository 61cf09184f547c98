use Rattle.basket_read.proofs.ReadLemmas.{counted}
use Rattle.basket_read.proofs.read.count_fimi.Goals as goal

pub returns-clause-counted : goal.returns-clause-counted
returns-clause-counted g c = counted _ _ _ c.read_batches.result c.read_batches.ensures.read
