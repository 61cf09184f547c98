use Rattle.std.proofs.Common.{◌≡◌, length, arith}
use Rattle.std.proofs.lemmas.Grind.{common_steps}
use Rattle.std.proofs.lemmas.List.{get_or-map, length-map, same_lists}
use Rattle.basket_ranks.specs.Codes.{coded_basket}
use Rattle.basket_ranks.proofs.codes.share_codes.Goals as goal

pub returns : goal.returns
returns g c =
    let baskets = c.args.baskets.now in
    let now = c.for_each_mut.new.s in
    let code = coded_basket c.args.codes.now.items in
    let long : length now ≡ length baskets = c.for_each_mut.auto.s in
    grind (arith, common_steps, same_lists, length-map, get_or-map)
