use Rattle.basket_laws.proofs.TextLemmas.{texts_make_the_whole}
use Rattle.basket_laws.proofs.texts.texts_make_the_whole.Goals as goal

pub returns : goal.returns
returns c = texts_make_the_whole
