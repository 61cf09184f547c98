use Rattle.std.proofs.Common.{◌∷◌, ◌++◌, [], get_or, length, map, take, sym, ap, ◌∙◌, arith}
use Rattle.std.proofs.lemmas.List.{get_or_default, map-append, take_all, take_more}
use Rattle.basket_sets.proofs.theory.Tests.{all_below_at}
use Rattle.mine_vertical.proofs.local_baskets.items_at.Goals as goal

pub offset_bounds-items-index : goal.offset_bounds-items-index
offset_bounds-items-index g c = omega (arith, all_below_at (length c.args.items.now) c.args.indexes.now c.loop-index.index-index c.requires c.loop-index-test.true)

pub bounds-items-index : goal.bounds-items-index
bounds-items-index g c = all_below_at (length c.args.items.now) c.args.indexes.now c.loop-index.index-index c.requires c.loop-index-test.true

pub loop-index-preserved : goal.loop-index-preserved
loop-index-preserved g c = λ none.
    let items = c.args.items.now in
    let indexes = c.args.indexes.now in
    let i = c.loop-index.index-index in
    let here = c.loop-index-test.true in
    let index = get_or indexes i 0 in
    let item = c.index-items-index.result in
    let is = c.index-items-index.is ∙ get_or_default items index item none (all_below_at (length items) indexes i c.requires here) in
    c.in_ok-push.ensures.items ∙ ap (λ l. l ++ item ∷ []) (c.loop-index.invariant none) ∙ ap (λ x. map (λ p. get_or items p none) (take i indexes) ++ x ∷ []) is
    ∙ sym (ap (map (λ p. get_or items p none)) (take_more indexes i 0 here) ∙ map-append (λ p. get_or items p none) (take i indexes) (index ∷ []))

pub returns : goal.returns
returns g c = λ none. c.loop-index.invariant none ∙ ap (map (λ index. get_or c.args.items.now index none)) (take_all c.loop-index.index-index c.args.indexes.now c.loop-index-test.false)
