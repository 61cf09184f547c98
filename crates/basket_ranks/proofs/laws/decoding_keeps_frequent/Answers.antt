use Rattle.basket_ranks.proofs.theory.Decoding as lemmas
use Rattle.basket_ranks.proofs.laws.decoding_keeps_frequent.Goals as goal

pub returns : goal.returns
returns c = lemmas.decoding_keeps_frequent
