use Rattle.std.proofs.Common.{◌+◌, subst, sym, arith}
use Rattle.mine_apriori.specs.Levels.{level_of}
use Rattle.mine_supports.specs.Sizes.{IsRegular}
use Rattle.mine_apriori.proofs.LawLemmas.{candidates_are_in_report_order, candidates_are_one_larger}
use Rattle.mine_apriori.proofs.LevelsLemmas.{level_sized}
use Rattle.mine_apriori.proofs.levels.Levels.asked.Goals as goal

pub returns-clause-regular : goal.returns-clause-regular
returns-clause-regular c =
    let knows = c.self.invariant.1 in
    let coding = c.self.inside.coded.now in
    let size = c.self.inside.size in
    let some = knows.some in
    let asked = knows.asked in
    subst IsRegular (sym asked) (
      (size + 1, omega arith, candidates_are_one_larger size (level_of coding size) (level_sized coding size)),
      candidates_are_in_report_order (level_of coding size),
    )
