use Rattle.basket_counts.proofs.ReadLemmas.{follows}
use Rattle.basket_counts.proofs.read.read_sets.Goals as goal

pub returns-clause-read : goal.returns-clause-read
returns-clause-read g c = follows _ _ _ _ _ c.sets.ensures.answers c.sets.ensures.not_read c.in_ok-listed.ensures.read
