use Rattle.std.proofs.Common.{None}
use Rattle.basket_read.specs.Fimi.{fimi_of}
use Rattle.basket_read.specs.Read.{FailsAfter}
use Rattle.basket_outcome.specs.declared.contents.Contents.TheVariants as contents
use Rattle.basket_outcome.proofs.ContentsLemmas.{contents_read}
use Rattle.basket_outcome.proofs.contents.Contents.read.Goals as goal

pub returns-in-Fimi-clause-read : goal.returns-in-Fimi-clause-read
returns-in-Fimi-clause-read g c = rw c.in-Fimi.is (contents_read (λ a. contents.Baskets a None) fimi_of (FailsAfter (g.S.Source.left c.args.reader.now) (g.S.Source.left c.read_fimi_shared.new.reader)) (g.S.Source.left c.args.reader.now) _ c.read_fimi_shared.result c.numbered.result c.numbered.ensures c.read_fimi_shared.ensures.read)
