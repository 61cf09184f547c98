use Rattle.std.proofs.Common.{◌≡◌, List, ℕ, length, map, subst, sym, ap, ◌∙◌}
use Rattle.basket_ranks.specs.Codes.{decoded_basket}
use Rattle.basket_sets.specs.declared.weighted.Weighted.{Weighted}
use Rattle.mine_baskets.specs.ListBaskets.{HaveSameWeights}
use Rattle.mine_baskets.proofs.theory.Weights.{decoded_weights}
use Rattle.mine_classes.specs.Conditional.{conditional}
use Rattle.mine_conditional.specs.Conditional.{conditional_baskets}
use Rattle.mine_pairs.specs.Pairs.{kept_ranks, pairs_of}
use Rattle.mine_pairs.proofs.theory.Kept.{pair_ranks}
use Rattle.mine_vertical.proofs.siblings.class_siblings.Goals as goal

-- the ranks that are kept
kept_are : (baskets : List Weighted) (least rank : ℕ) (pairs : List (ℕ × ℕ)) (kept : List ℕ) → kept ≡ map (λ pair. pair.0) pairs → pairs ≡ pairs_of baskets least rank → kept ≡ kept_ranks baskets least rank
kept_are baskets least rank pairs kept firsts are = firsts ∙ ap (map (λ (pair : ℕ × ℕ). pair.0)) are ∙ pair_ranks baskets least rank

pub with_siblings-requires-clause-long : goal.with_siblings-requires-clause-long
with_siblings-requires-clause-long g c =
    let kept = kept_are c.args.runs.now.baskets c.args.least c.args.rank c.deref.result.now c.in_ok-kept.kept.items c.in_ok-kept.ensures (c.deref.ensures.value ∙ c.in_ok-pairs.ensures.pairs) in
    c.in_ok-merged.ensures.ranks ∙ c.in_ok-below.ensures.below.ranks ∙ sym (ap length kept)

pub returns-clause-siblings : goal.returns-clause-siblings
returns-clause-siblings g c =
    let all = c.args.runs.now.baskets in
    let least = c.args.least in
    let rank = c.args.rank in
    let local = c.in_ok-made.made.0 in
    let ranks = ap (λ v. v.items) c.in_ok-made.ensures.ranks ∙ kept_are all least rank c.deref.result.now c.in_ok-kept.kept.items c.in_ok-kept.ensures (c.deref.ensures.value ∙ c.in_ok-pairs.ensures.pairs) in
    let below = c.in_ok-below.ensures.below in
    let merged = c.in_ok-merged.merged.baskets in
    record {
      ranks = ranks;
      conditional = record {
        ranks = ap length ranks;
        ranked = local.ranked;
        weights = subst (λ l. HaveSameWeights (conditional least all rank) (map (decoded_basket (kept_ranks all least rank)) l)) (sym c.in_ok-made.ensures.baskets)
            (λ test. below.weights test ∙ decoded_weights (kept_ranks all least rank) (conditional_baskets c.in_ok-below.below).baskets merged c.in_ok-merged.ensures.weights test);
      };
      over = c.in_ok-made.ensures.over;
    }
