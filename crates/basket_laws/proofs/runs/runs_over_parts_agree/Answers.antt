use Rattle.basket_laws.proofs.RunLemmas.{runs_over_parts_agree}
use Rattle.basket_laws.proofs.runs.runs_over_parts_agree.Goals as goal

pub returns : goal.returns
returns c =
    runs_over_parts_agree c.prefixes_are_good.ensures c.good_is_faultless.ensures c.lines_say_theirs.ensures c.combining_keeps_sets.ensures c.combining_keeps_counts.ensures c.combining_keeps_frequent.ensures
