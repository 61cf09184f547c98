use Rattle.std.proofs.Common.{◌≡◌, take}
use Rattle.mine_baskets.specs.Words.{word_baskets}
use Rattle.mine_baskets.proofs.word_baskets.words_of_ranks.Given as goal

abbrev pub invariant-loop-basket : goal.invariant-loop-basket
invariant-loop-basket l = word_baskets l.count l.words.items ≡ take l.basket-index l.baskets
