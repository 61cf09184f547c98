use Rattle.std.proofs.Common.{◌≡◌, sym, subst, ap, ◌∙◌, arith}
use Rattle.std.proofs.lemmas.Grind.{common_steps}
use Rattle.std.proofs.lemmas.List.{map-append, take_more}
use Rattle.basket_sets.specs.Database.{weighted}
use Rattle.mine_baskets.specs.declared.words.Word.{Word}
use Rattle.mine_baskets.specs.ListBaskets.{IsRankBasket}
use Rattle.mine_baskets.specs.Words.{rank_bits, ranks_in, word_basket}
use Rattle.mine_baskets.proofs.word_baskets.words_of_ranks.Goals as goal
use Rattle.mine_baskets.proofs.WordLemmas.{rank_bits_are}

pub loop-basket-preserved : goal.loop-basket-preserved
loop-basket-preserved c =
    let count = c.args.count in
    let all = c.args.baskets.now in
    let i = c.loop-basket.basket-index in
    let basket = c.basket-item.result in
    let here = c.loop-basket-test.true in
    let is : IsRankBasket count basket = subst (IsRankBasket count) (sym c.basket-item.is) (c.requires.ranked.each i basket here) in
    let word : Word = record { bits = c.bits_of_ranks-bits.result; weight = basket.weight } in
    let bits = c.bits_of_ranks-bits.ensures ∙ ap rank_bits c.items.ensures.items in
    let same : word_basket count word ≡ basket = ap (λ l. weighted l basket.weight) (ap (ranks_in count) bits ∙ rank_bits_are count basket.basket c.requires.few is.rises is.below) in
    grind (arith, common_steps, map-append, take_more)
