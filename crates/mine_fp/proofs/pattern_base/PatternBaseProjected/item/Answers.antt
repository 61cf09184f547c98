use Rattle.std.proofs.Common.{◌∙◌, get_or, sym, arith}
use Rattle.mine_fp.proofs.PatternLemmas.{entry_rank, rank_known}
use Rattle.mine_fp.proofs.pattern_base.PatternBaseProjected.item.Goals as goal

pub item-requires : goal.item-requires
item-requires c = let (node, is) = c.requires.given in omega (arith, rank_known is c.args.at c.requires.inside, entry_rank is c.args.at c.requires.inside c.index.ensures)

pub returns : goal.returns
returns c = λ node is. c.item.ensures ∙ (λ i. get_or ((sym is.numbered.over i).items) (entry_rank is c.args.at c.requires.inside c.index.ensures i) 0)
