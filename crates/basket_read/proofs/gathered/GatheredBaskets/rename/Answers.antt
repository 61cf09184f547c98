use Rattle.std.proofs.Common.{length, refl}
use Rattle.basket_read.proofs.GatheredLemmas.{kept_below, past_below, renamed_gathered}
use Rattle.basket_read.proofs.gathered.GatheredBaskets.rename.Goals as goal

pub rename-requires-2 : goal.rename-requires-2
rename-requires-2 c = let (counting, baskets, h, below) = c.requires in kept_below c.args.self.now counting baskets h c.if-self.false (length c.args.names.now) below

pub returns : goal.returns
returns c = λ counting baskets h distinct below.
    renamed_gathered c.args.self.now counting baskets h c.if-self.false _ c.args.names.now refl refl
    (c.in_ok-rename.ensures.renamed h.past h.counted distinct (past_below c.args.self.now counting baskets h c.if-self.false (length c.args.names.now) below)) c.rename-2.ensures
