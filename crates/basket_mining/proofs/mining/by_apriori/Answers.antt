use Rattle.std.proofs.Common.{◌∙◌}
use Rattle.basket_mining.proofs.MiningLemmas.{count_is}
use Rattle.basket_mining.proofs.mining.by_apriori.Goals as goal

pub returns-clause-work : goal.returns-clause-work
returns-clause-work g c database minimum made =
    let count = c.in_ok-frequent.ensures.candidates ∙ count_is c.args.coded c.in_ok-merged.merged c.in_ok-merged.ensures.list c.in_ok-merged.ensures.total c.in_ok-merged.ensures.minimum c.candidates_by_sets.ensures database minimum made in
    c.of_candidates.ensures ∙ (λ i. record { candidates = count i; joins = 0; trees = 0 })
