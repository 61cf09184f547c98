use Rattle.basket_laws.proofs.CutLemmas.{cuts_are_parts}
use Rattle.basket_laws.proofs.cuts.cuts_are_parts.Goals as goal

pub returns : goal.returns
returns c = cuts_are_parts c.prefixes_are_good.ensures c.good_is_faultless.ensures c.lines_say_theirs.ensures
