use Rattle.std.proofs.Common.{get_or, length, vec_len, sym, ap, ◌∙◌, arith}
use Rattle.mine_vertical.specs.declared.local_baskets.LocalBaskets.{LocalBaskets}
use Rattle.mine_vertical.proofs.ExtensionLemmas.{as_long, lower, number_at, number_low, rank_read}
use Rattle.mine_vertical.proofs.projected.SiblingsProjected.item.Goals as goal

pub index-requires-2 : goal.index-requires-2
index-requires-2 g c =
    let (node, (set, is)) = c.requires.given in
    let base = c.args.self.now in
    let named = number_at base c.args.at (omega (arith, c.requires.inside, as_long base)) c.index.result.now c.index.ensures in
    omega (arith, number_low is c.args.at c.requires.inside, named, base.local.value.ranks.ok, ap (λ (local : LocalBaskets). vec_len local.ranks) c.deref.ensures)

pub item-requires : goal.item-requires
item-requires g c =
    let (node, (set, is)) = c.requires.given in
    let read = rank_read is c.args.at c.requires.inside c.index.result.now c.index.ensures c.deref.result.now c.deref.ensures c.index-2.result.now c.index-2.ensures in
    omega (arith, lower is c.args.at c.requires.inside, is.joined.within, ap length is.joined.items_are, read)

pub returns : goal.returns
returns g c = λ node (set, is).
    let read = rank_read is c.args.at c.requires.inside c.index.result.now c.index.ensures c.deref.result.now c.deref.ensures c.index-2.result.now c.index-2.ensures in
    c.item.ensures ∙ (λ i. get_or (sym is.joined.items_are i) (read i) 0)
