use Rattle.basket_plan.proofs.SpellingLemmas.{confidence, counts, minimum, reports, sets}
use Rattle.basket_plan.proofs.laws.options_in_one_word_or_two.Goals as goal

pub returns-clause-minimum : goal.returns-clause-minimum
returns-clause-minimum c = minimum

pub returns-clause-reports : goal.returns-clause-reports
returns-clause-reports c = reports

pub returns-clause-confidence : goal.returns-clause-confidence
returns-clause-confidence c = confidence

pub returns-clause-sets : goal.returns-clause-sets
returns-clause-sets c = sets

pub returns-clause-counts : goal.returns-clause-counts
returns-clause-counts c = counts
