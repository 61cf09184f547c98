use Rattle.std.proofs.Common.{◌≡◌, ◌-◌, [], ◌∷◌, length, refl, ap, ◌∙◌, arith}
use Rattle.std.proofs.lemmas.List.{length-map}
use Rattle.std.proofs.lemmas.List.Elements.{All-weaker, recursion_from_All}
use Rattle.basket_sets.specs.declared.weighted.Weighted.{Weighted}
use Rattle.basket_sets.specs.Itemset.{IsRising}
use Rattle.basket_sets.specs.Support.{support_of}
use Rattle.mine_baskets.specs.ListBaskets.{IsRankBasket}
use Rattle.mine_pairs.specs.Pairs.{kept_ranks}
use Rattle.mine_conditional.specs.Few.{first_support}
use Rattle.mine_conditional.proofs.FewLemmas.{few_weights}
use Rattle.mine_conditional.proofs.few.below_few.Goals as goal

pub returns : goal.returns
returns c all least rank ranked paired supported =
    let kept = kept_ranks all.baskets least rank in
    let long : length c.args.pairs.now ≡ length kept = ap length paired ∙ length-map kept (λ other. (other, support_of all.baskets (other ∷ rank ∷ []))) in
    let receipts = All-weaker (IsRankBasket all.ranks) (λ (receipt : Weighted). IsRising receipt.basket) (λ receipt is. is.rises) all.baskets ranked.each in
    record {
      ranks = c.in_ok-below.ensures.ranks ∙ long;
      ranked = c.in_ok-below.ensures.ranked;
      weights = few_weights all.baskets least rank (recursion_from_All (λ (receipt : Weighted). IsRising receipt.basket) all.baskets receipts) kept refl (omega (arith, long, c.requires.few)) c.first_support-with.result
          (c.args.support - c.first_support-with.result) (c.first_support-with.ensures ∙ ap first_support paired) (omega (arith, c.requires.falls, c.first_support-with.ensures, supported)) c.in_ok-below.below.baskets c.in_ok-below.ensures.weights;
    }
