use Rattle.std.proofs.Common.{◌<◌, ◌∷◌, ◌∙◌, cond, get_or, ap, subst, arith}
use Rattle.std.proofs.lemmas.Option.{IfSome_then}
use Rattle.mine_fp.specs.PatternBase.{ranks_of}
use Rattle.mine_fp.proofs.PatternLemmas.{base_below, slots_below, tree_more}
use Rattle.mine_fp.proofs.pattern_base.PatternBaseProjected.projected.Goals as goal

pub returns-clause-below : goal.returns-clause-below
returns-clause-below c = IfSome_then c.in_ok-below.below c.in_ok-below.ensures.below (λ below is_below node is.
    base_below is c.requires.branching c.args.at c.requires.inside below is_below)

pub returns-clause-work : goal.returns-clause-work
returns-clause-work c = λ node is.
    let rank = get_or (ranks_of c.args.self.now) c.args.at 0 in
    let one = ap (λ over. over.work (rank ∷ node.set)) is.numbered.over ∙ ap (λ b. cond b 1 0) (tree_more is c.requires.branching rank) in
    omega (arith, one, c.in_ok-below.ensures.trees)

pub returns-clause-inner : goal.returns-clause-inner
returns-clause-inner c = IfSome_then c.in_ok-below.below c.in_ok-below.ensures.below (λ below is_below.
    let (node, is) = c.requires.given in
    slots_below is_below (subst (λ n. c.args.at < n) is.numbered.long c.requires.inside) c.requires.lent c.below.ensures.kept)
