use Rattle.std.proofs.Common.{◌∙◌, ap, length, subst, sym}
use Rattle.std.specs.List.{range_with_len, sum_by}
use Rattle.mine_classes.specs.Mined.{RanksAreFrequent}
use Rattle.mine_vertical.specs.Joins.{class_joins, joins_of}
use Rattle.basket_mining.proofs.MiningLemmas.{ranks_are_frequent}
use Rattle.basket_mining.proofs.mining.by_eclat.Goals as goal

pub returns-clause-work : goal.returns-clause-work
returns-clause-work g c database minimum made =
    let coding = c.args.coded in
    let items = c.in_ok-runs.ensures.items in
    let is = c.in_ok-of_runs.ensures ∙ items in
    let work = c.in_ok-frequent.ensures.work (subst RanksAreFrequent (sym is) (ranks_are_frequent database minimum coding made)) ∙ (λ i. sum_by (class_joins (is i)) (range_with_len 0 (length (items i).items))) in
    let count = work ∙ c.class_joins_add_up.ensures coding ∙ ap joins_of made in
    c.of_joins.ensures ∙ (λ i. record { candidates = 0; joins = count i; trees = 0 })
