-- Weights of baskets.
use Rattle.std.proofs.Common.{◌++◌, ◌≡◌, ℕ, Bool, List, [], ◌∷◌, map, refl, arith}
use Rattle.std.proofs.lemmas.Grind.{common_steps}
use Rattle.std.specs.List.{sum_by}
use Rattle.basket_ranks.specs.Codes.{decoded, decoded_basket}
use Rattle.basket_sets.specs.declared.weighted.Weighted.{Weighted}
use Rattle.basket_sets.specs.Database.{weighted}
use Rattle.mine_baskets.specs.declared.words.Word.{Word}
use Rattle.mine_baskets.specs.ListBaskets.{HaveSameWeights, weight_where}
use Rattle.mine_baskets.specs.Words.{word_basket, word_baskets}

pub changed_weight : (test : List ℕ → Bool) (f : List ℕ → List ℕ) (receipts : List Weighted)
    → weight_where test (map (λ (receipt : Weighted). weighted (f receipt.basket) receipt.weight) receipts) ≡ weight_where (λ basket. test (f basket)) receipts
changed_weight test f [] = refl
changed_weight test f (receipt ∷ receipts) = grind (arith, common_steps, changed_weight test f receipts)

-- what is summed of words' baskets, word by word
pub word_sum : (f : Weighted → ℕ) (count : ℕ) (words : List Word) → sum_by f (word_baskets count words) ≡ sum_by (λ (word : Word). f (word_basket count word)) words
word_sum f count [] = refl
word_sum f count (word ∷ words) = grind (arith, common_steps, word_sum f count words)

-- what has the same weights has them as items too
pub decoded_weights : (items : List ℕ) (baskets others : List Weighted) → HaveSameWeights baskets others → HaveSameWeights (map (decoded_basket items) baskets) (map (decoded_basket items) others)
decoded_weights items baskets others same test = grind (arith, common_steps, changed_weight test (decoded items) baskets, changed_weight test (decoded items) others)

-- one basket more, as a word that was added
pub word_more : (count : ℕ) (before : List Weighted) (receipt : Weighted) (old new : List Word) (word : Word) → receipt ≡ word_basket count word
    → HaveSameWeights before (word_baskets count old) → HaveSameWeights (word_baskets count (old ++ word ∷ [])) (word_baskets count new)
    → HaveSameWeights (before ++ receipt ∷ []) (word_baskets count new)
word_more count before receipt old new word is so_far added test = grind (arith, common_steps)
