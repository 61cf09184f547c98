-- Items without the one at an index.
use Rattle.std.proofs.Common.{◌≡◌, ℕ, ◌+◌, ◌-◌, List, [], ◌∷◌, ◌++◌, length, take, drop, refl, sym, ap, ◌∙◌, zero, suc, add-one}
use Rattle.std.proofs.lemmas.List.{take_rest}
use Rattle.basket_sets.specs.Itemset.{without}

-- the items before an index and those after it
pub without_is : (index : ℕ) (items : List ℕ) → without index items ≡ take index items ++ drop (suc index) items
without_is zero [] = refl
without_is (suc index) [] = refl
without_is zero (x ∷ items) = refl
without_is (suc index) (x ∷ items) = ap (λ l. x ∷ l) (without_is index items)

-- the same of slices
pub around_is : (index : ℕ) (items : List ℕ) → take index items ++ take (length items - (index + 1)) (drop (index + 1) items) ≡ without index items
around_is index items = ap (λ l. take index items ++ l) (take_rest items (index + 1) ∙ ap (λ n. drop n items) (add-one index)) ∙ sym (without_is index items)
