use Rattle.std.proofs.Common.{subst, sym}
use Rattle.mine_baskets.specs.ListBaskets.{AreRankBaskets}
use Rattle.mine_baskets.specs.Words.{word_baskets}
use Rattle.mine_baskets.proofs.WordLemmas.{words_ranked}
use Rattle.mine_baskets.proofs.word_baskets.WordBaskets.lists.Goals as goal

pub of_words-requires-clause-ranked : goal.of_words-requires-clause-ranked
of_words-requires-clause-ranked c =
    let count = c.self.inside.count in
    subst (λ l. AreRankBaskets (record { ranks = count; baskets = word_baskets count l })) (sym c.deref.ensures.value)
    (words_ranked count c.self.inside.words.items c.self.invariant.some c.self.invariant.light)
