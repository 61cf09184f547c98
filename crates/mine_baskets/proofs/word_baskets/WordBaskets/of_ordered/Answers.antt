use Rattle.mine_baskets.proofs.WordLemmas.{words_ranked}
use Rattle.mine_baskets.proofs.word_baskets.WordBaskets.of_ordered.Goals as goal

pub returns-clause-ranked : goal.returns-clause-ranked
returns-clause-ranked c = words_ranked c.args.count c.args.words.items c.requires.some c.requires.light
