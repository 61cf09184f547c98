use Rattle.std.proofs.Common.{◌≡◌, ℕ, List, length, map, subst, sym, ap, ◌∙◌}
use Rattle.std.proofs.lemmas.Result.{IfOk-weaker}
use Rattle.std.proofs.lemmas.List.{length-map}
use Rattle.std.specs.List.{flat_map}
use Rattle.basket_ranks.specs.Codes.{decoded_basket}
use Rattle.basket_sets.specs.declared.weighted.Weighted.{Weighted}
use Rattle.basket_sets.specs.Itemset.{has}
use Rattle.mine_baskets.specs.declared.words.Word.{Word}
use Rattle.mine_classes.specs.Conditional.{kept_basket}
use Rattle.mine_baskets.specs.ListBaskets.{HaveSameWeights}
use Rattle.mine_baskets.specs.Words.{word_baskets}
use Rattle.mine_baskets.proofs.theory.Weights.{decoded_weights}
use Rattle.mine_conditional.proofs.word_paths.below.Goals as goal

-- the baskets of the words that were kept
kept_weights : (pairs : List (ℕ × ℕ)) (rank count : ℕ) (own : List Word) (baskets : List Weighted) (words : List Word) → word_baskets count own ≡ baskets
    → HaveSameWeights (flat_map (kept_basket (has (map (λ (pair : ℕ × ℕ). pair.0) pairs)) rank) (word_baskets count own))
    (map (decoded_basket (map (λ (pair : ℕ × ℕ). pair.0) pairs)) (word_baskets (length (map (λ (pair : ℕ × ℕ). pair.0) pairs)) words))
    → HaveSameWeights (flat_map (kept_basket (has (map (λ (pair : ℕ × ℕ). pair.0) pairs)) rank) baskets) (map (decoded_basket (map (λ (pair : ℕ × ℕ). pair.0) pairs)) (word_baskets (length pairs) words))
kept_weights pairs rank count own baskets words is weights =
    let kept = map (λ (pair : ℕ × ℕ). pair.0) pairs in
    let named = subst (λ (l : List Weighted). HaveSameWeights (flat_map (kept_basket (has kept) rank) l) (map (decoded_basket kept) (word_baskets (length kept) words))) is weights in
    subst (λ n. HaveSameWeights (flat_map (kept_basket (has kept) rank) baskets) (map (decoded_basket kept) (word_baskets n words))) (length-map pairs (λ (pair : ℕ × ℕ). pair.0)) named

pub returns-then-are_in_order-clause-weights : goal.returns-then-are_in_order-clause-weights
returns-then-are_in_order-clause-weights c =
    let kept = map (λ (pair : ℕ × ℕ). pair.0) c.args.pairs.now in
    let baskets = c.args.baskets.now in
    subst (λ (l : List Weighted). HaveSameWeights (flat_map (kept_basket (has kept) c.args.rank) baskets.baskets) (map (decoded_basket kept) l)) (sym (ap (λ v. v.baskets) c.of_ordered.ensures.baskets))
    (kept_weights c.args.pairs.now c.args.rank baskets.ranks c.words.result.now baskets.baskets c.in_ok-words.words.items
    c.words.ensures.baskets (c.in_ok-words.ensures.weights baskets.ranks c.requires.rank))

pub returns-clause-weights : goal.returns-clause-weights
returns-clause-weights c =
    let n = length c.args.pairs.now in
    let kept = map (λ (pair : ℕ × ℕ). pair.0) c.args.pairs.now in
    let baskets = c.args.baskets.now in
    let words = word_baskets n c.in_ok-words.words.items in
    let first = kept_weights c.args.pairs.now c.args.rank baskets.ranks c.words.result.now baskets.baskets c.in_ok-words.words.items
    c.words.ensures.baskets (c.in_ok-words.ensures.weights baskets.ranks c.requires.rank) in
    IfOk-weaker c.of.result (λ below. HaveSameWeights words below.baskets)
    (λ below. HaveSameWeights (flat_map (kept_basket (has kept) c.args.rank) baskets.baskets) (map (decoded_basket kept) below.baskets))
    (λ below is test. first test ∙ decoded_weights kept words below.baskets is test) c.of.ensures.weights
