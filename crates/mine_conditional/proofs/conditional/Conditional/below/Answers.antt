use Rattle.std.proofs.Common.{◌≡◌, ℕ, List, [], ◌∷◌, length, map, refl, subst, sym, ap, ◌∙◌, arith}
use Rattle.basket_sets.specs.declared.weighted.Weighted.{Weighted}
use Rattle.basket_sets.specs.Counts.{AllBelow}
use Rattle.basket_sets.specs.Itemset.{IsRising}
use Rattle.basket_sets.proofs.theory.Support.{support_falls}
use Rattle.basket_ranks.specs.Codes.{coded_basket}
use Rattle.mine_conditional.specs.Conditional.{conditional_baskets}
use Rattle.mine_baskets.specs.Baskets.{baskets_in}
use Rattle.mine_baskets.specs.ListBaskets.{HaveSameWeights}
use Rattle.mine_pairs.specs.Pairs.{kept_ranks, pairs_of}
use Rattle.mine_conditional.specs.Few.{first_support}
use Rattle.mine_pairs.proofs.theory.Coded.{conditional_weights}
use Rattle.mine_conditional.proofs.FewLemmas.{first_falls}
use Rattle.mine_pairs.proofs.theory.Kept.{kept_below, kept_rises, pair_ranks}
use Rattle.mine_conditional.proofs.conditional.Conditional.below.Goals as goal

-- the first ranks of the pairs are the ranks that are kept
firsts : (baskets : List Weighted) (least rank : ℕ) (pairs : List (ℕ × ℕ)) (ranks : List ℕ) → pairs ≡ pairs_of baskets least rank → ranks ≡ map (λ pair. pair.0) pairs → ranks ≡ kept_ranks baskets least rank
firsts baskets least rank pairs ranks are is = is ∙ ap (map (λ (pair : ℕ × ℕ). pair.0)) are ∙ pair_ranks baskets least rank

pub coded-requires-clause-rises : goal.coded-requires-clause-rises
coded-requires-clause-rises c =
    let kept = firsts c.args.runs.now.baskets c.args.least c.args.rank c.args.pairs.now c.in_ok-kept.kept.items c.requires.pairs c.in_ok-kept.ensures in
    subst IsRising (sym (c.deref.ensures.value ∙ kept)) (kept_rises c.args.runs.now.baskets c.args.least c.args.rank)

pub coded-requires-clause-below : goal.coded-requires-clause-below
coded-requires-clause-below c =
    let kept = firsts c.args.runs.now.baskets c.args.least c.args.rank c.args.pairs.now c.in_ok-kept.kept.items c.requires.pairs c.in_ok-kept.ensures in
    subst (AllBelow c.args.numbers.now) (sym (c.deref.ensures.value ∙ kept))
    (λ item h. let less = kept_below c.args.runs.now.baskets c.args.least c.args.rank item h in omega (arith, less, c.requires.rank, c.requires.numbers))

pub below_few-requires-clause-falls : goal.below_few-requires-clause-falls
below_few-requires-clause-falls c =
    let falls = first_falls c.args.runs.now.baskets c.args.least c.args.rank in
    omega (arith, falls, c.support.ensures, ap first_support c.requires.pairs)

pub below_few-requires-clause-light : goal.below_few-requires-clause-light
below_few-requires-clause-light c =
    let all = support_falls c.args.runs.now.baskets (c.args.rank ∷ []) [] refl in
    omega (arith, all, c.support.ensures, c.of_rank-paths.ensures.ranked.light)

pub returns-clause-below : goal.returns-clause-below
returns-clause-below c =
    let baskets = c.args.runs.now.baskets in
    let paths = c.of_rank-paths.result in
    let kept = c.deref.ensures.value ∙ firsts baskets c.args.least c.args.rank c.args.pairs.now c.in_ok-kept.kept.items c.requires.pairs c.in_ok-kept.ensures in
    let others = (conditional_baskets c.in_ok-below-2.below).baskets in
    let same = subst (λ l. HaveSameWeights (map (coded_basket l) (baskets_in paths)) others) kept c.in_ok-below-2.ensures.weights in
    record {
      ranks = c.in_ok-below-2.ensures.ranks ∙ ap length kept;
      ranked = c.in_ok-below-2.ensures.ranked;
      weights = conditional_weights baskets c.args.least c.args.rank paths.count (baskets_in paths) c.of_rank-paths.ensures.weights paths.ranked.each others same;
    }
