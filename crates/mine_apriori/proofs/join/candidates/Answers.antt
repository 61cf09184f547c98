use Rattle.std.proofs.Common.{ap, ◌∙◌, ◌≡◌, arith}
use Rattle.std.proofs.lemmas.Grind.{common_steps}
use Rattle.std.specs.Prelude.{slice_range}
use Rattle.std.proofs.lemmas.Result.{IfOk-weaker}
use Rattle.mine_supports.specs.Extensions.{sets_of}
use Rattle.mine_supports.proofs.theory.Extensions.{range_all}
use Rattle.mine_apriori.specs.Candidates.{candidates_of}
use Rattle.mine_apriori.specs.Join.{joined_groups}
use Rattle.mine_apriori.proofs.JoinedLemmas.{candidates_grouped, level_joined}
use Rattle.mine_apriori.proofs.join.candidates.Goals as goal

pub returns-clause-candidates : goal.returns-clause-candidates
returns-clause-candidates c =
    let groups = c.args.level.now in
    let all = (λ i. slice_range groups (c.range.ensures.0 i) (c.range.ensures.1 i)) ∙ range_all groups in
    IfOk-weaker c.candidates_in.result _ (λ found. sets_of found ≡ candidates_of (sets_of groups))
    (λ found is. ap sets_of (is ∙ ap (joined_groups (sets_of groups)) all) ∙ level_joined groups c.requires.grouped c.requires.in_order c.requires.rising)
    c.candidates_in.ensures

pub returns-clause-grouped : goal.returns-clause-grouped
returns-clause-grouped c = grind (arith, common_steps, range_all, IfOk-weaker, candidates_grouped)
