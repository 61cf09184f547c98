use Rattle.std.proofs.Common.{ap, subst, ◌∙◌}
use Rattle.std.specs.List.{Contains}
use Rattle.basket_sets.specs.Minimum.{meets}
use Rattle.basket_sets.specs.Support.{total_of}
use Rattle.basket_ranks.proofs.DepthLemmas.{count_is}
use Rattle.basket_ranks.proofs.depth.narrower.Goals as goal

pub returns-in-Some : goal.returns-in-Some
returns-in-Some c =
    let baskets = c.args.baskets.now in
    let rank = c.in-Some.rank in
    let (count, here, met) = c.in-Some.ensures in
    let same = count_is baskets rank count (subst (λ l. Contains l (rank, count)) (c.deref.ensures.value ∙ c.in_ok-count_items.ensures.counts) here) in
    (rank, c.in_ok-narrowed_to-in-Some.ensures, ap (λ n. meets c.args.coded.now.minimum n (total_of c.args.coded.now.baskets)) same ∙ met)
