-- The subsets of a size, as they are listed.
use Rattle.std.proofs.Common.{◌≡◌, ◌<◌, ◌-◌, ℕ, List, ◌∷◌, ◌++◌, map, ap, ◌∙◌, arith, zero, suc, subst, sym}
use Rattle.std.specs.List.{All}
use Rattle.std.proofs.lemmas.List.Elements.{All-from_recursion}
use Rattle.basket_sets.specs.Itemset.{IsRising}
use Rattle.basket_sets.specs.Subsets.{subsets_of_size}
use Rattle.basket_sets.proofs.theory.Members.{All-from_Member}
use Rattle.basket_sets.proofs.theory.Rising.{cons_rises, first_below, rest_rises}
use Rattle.basket_sets.proofs.theory.Subsets.{IsSubset-from_Member}

-- the first item can stand before each subset of the others
pub firsts_rise : (size first : ℕ) (items others : List ℕ) (sets : List (List ℕ)) → IsRising items → items ≡ first ∷ others → sets ≡ subsets_of_size size others
    → All (λ set. IsRising (first ∷ set)) sets
firsts_rise size first items others sets up parts is =
    subst (All (λ set. IsRising (first ∷ set))) (sym is)
    (All-from_recursion (λ set. IsRising (first ∷ set)) (subsets_of_size size others) (All-from_Member (λ set. IsRising (first ∷ set)) (subsets_of_size size others) (λ set m.
    let s = IsSubset-from_Member size others set (rest_rises first others over) m in
    cons_rises first set (λ y n. first_below first others over y (s.within y n)) s.rises)))
  where
    over : IsRising (first ∷ others)
    over = subst IsRising parts up

-- the subsets with the first item, then those without
pub size_step : (size first : ℕ) (items others : List ℕ) → items ≡ first ∷ others → 0 < size
    → subsets_of_size size items ≡ map (λ set. first ∷ set) (subsets_of_size (size - 1) others) ++ subsets_of_size size others
size_step zero first items others parts some = absurd (omega arith)
size_step (suc size) first items others parts some =
    let less : size ≡ suc size - 1 = omega arith in
    ap (subsets_of_size (suc size)) parts ∙ ap (λ n. map (λ set. first ∷ set) (subsets_of_size n others) ++ subsets_of_size (suc size) others) less
