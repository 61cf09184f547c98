use Rattle.basket_read.proofs.ReadLemmas.{kept_alone}
use Rattle.basket_read.proofs.read.read_fimi_by.Goals as goal

pub returns-clause-read : goal.returns-clause-read
returns-clause-read g c = kept_alone _ _ _ c.read_batches.result c.map.result c.map.ensures.cases c.read_batches.ensures.read
