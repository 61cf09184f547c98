use Rattle.std.proofs.Common.{◌≡◌, ℕ, List, length, map, subst, sym, ap, ◌∙◌, arith}
use Rattle.std.proofs.lemmas.Grind.{common_steps}
use Rattle.std.specs.List.{flat_map}
use Rattle.std.proofs.lemmas.List.{length-map}
use Rattle.basket_ranks.specs.Codes.{decoded_basket}
use Rattle.basket_sets.specs.declared.weighted.Weighted.{Weighted}
use Rattle.basket_sets.specs.Itemset.{has}
use Rattle.mine_classes.specs.Conditional.{kept_basket}
use Rattle.mine_baskets.specs.ListBaskets.{HaveSameWeights}
use Rattle.mine_pairs.specs.Pairs.{kept_ranks, pairs_of}
use Rattle.mine_pairs.proofs.theory.Kept.{has_kept, kept_below, kept_rises, kept_short, pair_ranks}
use Rattle.mine_conditional.proofs.paths.below_words.Goals as goal

abbrev ranks_of : List (ℕ × ℕ) → List ℕ
ranks_of pairs = map (λ (pair : ℕ × ℕ). pair.0) pairs

are_kept : (baskets : List Weighted) (least rank : ℕ) (pairs : List (ℕ × ℕ)) → pairs ≡ pairs_of baskets least rank → ranks_of pairs ≡ kept_ranks baskets least rank
are_kept baskets least rank pairs is = ap ranks_of is ∙ pair_ranks baskets least rank

pub below-requires-clause-rises : goal.below-requires-clause-rises
below-requires-clause-rises c = let kept = are_kept c.args.baskets.now.baskets c.args.least c.args.rank c.args.pairs.now c.requires.pairs in grind (arith, common_steps, kept_rises)

pub below-requires-clause-below : goal.below-requires-clause-below
below-requires-clause-below c = let kept = are_kept c.args.baskets.now.baskets c.args.least c.args.rank c.args.pairs.now c.requires.pairs in grind (arith, common_steps, kept_below)

pub below-requires-clause-few : goal.below-requires-clause-few
below-requires-clause-few c = grind (arith, common_steps, are_kept, length-map, kept_short)

pub returns : goal.returns
returns c =
    let baskets = c.args.baskets.now.baskets in
    let rank = c.args.rank in
    let kept = are_kept baskets c.args.least rank c.args.pairs.now c.requires.pairs in
    let below = c.in_ok-below.below.baskets in
    let by_list = subst (λ (l : List ℕ). HaveSameWeights (flat_map (kept_basket (has l) rank) baskets) (map (decoded_basket l) below)) kept c.in_ok-below.ensures.weights in
    record {
      ranks = c.in_ok-below.ensures.ranks ∙ sym (length-map c.args.pairs.now (λ (pair : ℕ × ℕ). pair.0)) ∙ ap length kept;
      ranked = c.in_ok-below.ensures.ranked;
      weights = grind (arith, common_steps, has_kept);
    }
