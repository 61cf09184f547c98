use Rattle.std.proofs.Common.{◌≡◌, ◌<◌, ◌∷◌, [], ℕ, get_or, length, map, take, sym, ap, ◌∙◌, arith}
use Rattle.std.specs.List.{filter, range_with_len}
use Rattle.std.proofs.lemmas.List.{get_or-take, length-take-le}
use Rattle.std.proofs.lemmas.Result.{IfOk-weaker}
use Rattle.basket_sets.specs.Support.{support_of}
use Rattle.mine_pairs.specs.Sums.{is_met}
use Rattle.mine_pairs.specs.Pairs.{pairs_of}
use Rattle.mine_pairs.proofs.theory.PairSums.{sums_are_pairs}
use Rattle.mine_conditional.proofs.WordPathLemmas.{pair_support}
use Rattle.mine_conditional.proofs.word_paths.pairs.Goals as goal

pub returns : goal.returns
returns c =
    let baskets = c.args.baskets.now in
    let rank = c.args.rank in
    let sums = take rank c.pair_sums-sums.result in
    let long : length c.pair_sums-sums.result ≡ 64 = omega (arith, c.pair_sums-sums.type_inv) in
    let few : rank < 64 = omega (arith, c.requires, c.words.ensures.few) in
    IfOk-weaker c.met_in_order.result
    (λ pairs. pairs.items ≡ map (λ (other : ℕ). (other, get_or sums other 0)) (filter (λ other. is_met c.args.least (get_or sums other 0)) (range_with_len 0 (length sums))))
    (λ pairs. pairs.items ≡ pairs_of baskets.baskets c.args.least rank)
    (λ pairs is. is ∙ sums_are_pairs baskets.baskets c.args.least rank sums (length-take-le rank c.pair_sums-sums.result (omega (arith, long, few))) (λ other less.
    get_or-take rank c.pair_sums-sums.result other 0 less
    ∙ c.pair_sums-sums.ensures other less
    ∙ sym (pair_support baskets.ranks rank other c.words.result.now c.requires less)
    ∙ ap (λ l. support_of l (other ∷ rank ∷ [])) c.words.ensures.baskets))
    c.met_in_order.ensures
