use Rattle.std.proofs.Common.{◌≡◌, ◌+◌, ◌++◌, ◌∷◌, [], cond, filter, get_or, length, map, take, append-nil, sym, ap, ◌∙◌, arith}
use Rattle.std.proofs.lemmas.Bool.{le-leb, lt-leb}
use Rattle.std.proofs.lemmas.List.{map-append}
use Rattle.std.proofs.lemmas.List.Elements.{filter_more}
use Rattle.basket_sets.specs.Itemset.{has}
use Rattle.mine_supports.specs.Needed.{is_needed, needed}
use Rattle.mine_supports.proofs.block.listed.Goals as goal
use Rattle.mine_supports.proofs.block.listed.Goals.{then-count-least+in_ok-push, else-count-least}

pub loop-basket-preserved : goal.loop-basket-preserved
loop-basket-preserved c =
    let used = c.args.used.now in
    let least = c.args.least in
    let baskets = c.args.baskets.now in
    let i = c.loop-basket.basket-index in
    let basket = c.basket-item.result in
    let kept = needed used least (take i baskets) in
    let count = c.count.ensures ∙ ap (λ l. length (filter (has used) l)) c.items.ensures.items in
    let tested = ap (is_needed used least) (sym c.basket-item.is) in
    let more = filter_more (is_needed used least) baskets i basket c.loop-basket-test.true in
    elim c.if-count-least.branch [
      | then-count-least+in_ok-push w ↦
          (let one : needed used least (take (i + 1) baskets) ≡ kept ++ basket ∷ [] =
          more ∙ ap (λ b. kept ++ cond b (get_or baskets i basket ∷ []) []) (tested ∙ le-leb least (length (filter (has used) basket.basket)) (omega (arith, count, w.if-count-least.true)))
          ∙ ap (λ b. kept ++ b ∷ []) (sym c.basket-item.is) in
          ap (λ v. map (λ b. b.now) v.items) w.listed-is ∙ ap (map (λ b. b.now)) w.in_ok-push.ensures.items ∙ map-append (λ b. b.now) c.loop-basket.listed.items _
          ∙ ap (λ l. l ++ basket ∷ []) c.loop-basket.invariant ∙ sym one)
      | else-count-least w ↦
          ap (λ v. map (λ b. b.now) v.items) w.listed-is ∙ c.loop-basket.invariant
          ∙ sym (more ∙ ap (λ b. kept ++ cond b (get_or baskets i basket ∷ []) []) (tested ∙ lt-leb least (length (filter (has used) basket.basket)) (omega (arith, count, w.if-count-least.false)))
          ∙ append-nil kept)
    ]
