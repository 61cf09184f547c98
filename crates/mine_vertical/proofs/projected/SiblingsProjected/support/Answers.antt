use Rattle.std.proofs.Common.{◌<◌, ◌∷◌, ap, sym, ◌∙◌, arith}
use Rattle.basket_sets.specs.Support.{support_of}
use Rattle.mine_vertical.specs.LocalBaskets.{baskets_in}
use Rattle.mine_vertical.proofs.ExtensionLemmas.{as_long, number_at, row_at, support_at}
use Rattle.mine_vertical.proofs.projected.SiblingsProjected.support.Goals as goal

pub returns : goal.returns
returns g c = λ node (set, is).
    let base = c.args.self.now in
    let baskets = baskets_in base.local.value in
    let inside : c.args.at < base.kept = omega (arith, c.requires.inside, as_long base) in
    c.count.ensures baskets set (row_at base c.args.at inside c.index.result.now c.index.ensures g.R.Row.stands set is.siblings)
    ∙ ap (λ number. support_of baskets (number ∷ set)) (sym (number_at base c.args.at inside c.index.result.now c.index.ensures)) ∙ sym (support_at is c.args.at c.requires.inside)
