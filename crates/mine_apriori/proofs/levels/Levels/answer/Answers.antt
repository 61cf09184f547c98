use Rattle.std.proofs.Common.{filter, ap, ◌∙◌}
use Rattle.basket_sets.specs.Frequent.{is_frequent}
use Rattle.mine_apriori.proofs.LevelsLemmas.{AreNext, are_next, next_level}
use Rattle.mine_apriori.proofs.levels.Levels.answer.Given.{Over}
use Rattle.mine_apriori.proofs.levels.Levels.answer.Goals as goal
use Rattle.mine_apriori.proofs.levels.Levels.answer.Goals.{In_ok-level}

-- the sets of one rank more are found
next : (g : Over) (c : In_ok-level g) → AreNext c.self.inside.coded.now c.self.inside.size c.add_frequent.new.found c.in_ok-level.level
next g c =
    let coding = c.self.inside.coded.now in
    let knows = c.self.invariant.1 in
    are_next coding c.self.inside.size c.self.inside.asked c.in_ok-level.level c.self.inside.found c.add_frequent.new.found knows.found_all knows.grouped
    (ap (filter (is_frequent coding.baskets coding.minimum)) knows.asked ∙ next_level coding c.self.inside.size knows.some) c.in_ok-level.ensures.level c.in_ok-level.ensures.found

pub ask-requires-clause-found : goal.ask-requires-clause-found
ask-requires-clause-found g c = (next g (goal.at.ask-requires-clause-found g c).In_ok-level).found_all

pub ask-requires-clause-level : goal.ask-requires-clause-level
ask-requires-clause-level g c = (next g (goal.at.ask-requires-clause-level g c).In_ok-level).level_all

pub ask-requires-clause-grouped : goal.ask-requires-clause-grouped
ask-requires-clause-grouped g c = (next g (goal.at.ask-requires-clause-grouped g c).In_ok-level).grouped
