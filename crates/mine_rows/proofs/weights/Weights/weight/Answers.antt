use Rattle.std.proofs.Common.{◌+◌, get_or, take, sym, ap, ◌∙◌, arith}
use Rattle.std.proofs.lemmas.Grind.{common_steps}
use Rattle.std.proofs.lemmas.List.{get_or_default}
use Rattle.std.proofs.lemmas.List.Sums.{sum_by_more, sum_by-take-le}
use Rattle.mine_rows.specs.Cover.{cover_weight}
use Rattle.mine_rows.proofs.CoverLemmas.{cover_at, cover_light}
use Rattle.mine_rows.proofs.weights.Weights.weight.Goals as goal

pub loop-tid-preserved : goal.loop-tid-preserved
loop-tid-preserved c =
    let weights = c.args.self.now in
    let tids = c.args.tids.now in
    let i = c.loop-tid.tid-index in
    let tid = get_or tids i 0 in
    let here = cover_at weights tids i c.requires.below c.loop-tid-test.true in
    let added = c.index.ensures ∙ ap (λ l. get_or l tid c.index.result.now) c.self.view_is ∙ get_or_default weights tid c.index.result.now 0 here in
    ap (λ n. n + c.index.result.now) c.loop-tid.invariant ∙ ap (λ n. cover_weight weights (take i tids) + n) added
    ∙ sym (sum_by_more (λ p. get_or weights p 0) tids i 0 c.loop-tid-test.true)

pub returns-clause-within : goal.returns-clause-within
returns-clause-within c = grind (arith, common_steps, sum_by-take-le, cover_light)
