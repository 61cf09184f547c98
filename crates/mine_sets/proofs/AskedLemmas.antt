-- Sets that are asked for: the empty set, and then sets that have items.
use Rattle.std.proofs.Common.{◌≡◌, ◌∙◌, Bool, true, false, List, [], ◌∷◌, ◌++◌, ℕ, ap, cond, filter, fold, map, refl, sym, zip}
use Rattle.std.specs.Prelude.{nat_eq}
use Rattle.std.specs.Cmp.Lexicographic.{pointwise}
use Rattle.std.specs.List.{list_any}
use Rattle.std.proofs.lemmas.List.Elements.{filter-append}
use Rattle.basket_sets.specs.declared.weighted.Weighted.{Weighted}
use Rattle.basket_sets.specs.Frequent.{counted}
use Rattle.basket_sets.specs.Support.{support_of, total_of}
use Rattle.mine_supports.specs.Extensions.{is_some}
use Rattle.mine_sets.specs.Asked.{asked_of, counted_with, with_set}

-- once the sets have come to what is asked for, that is the empty set, and then sets that have items
abbrev Follow : List (List ℕ) → List (List ℕ) → Type 0
Follow asked sets = (others : List (List ℕ)) × (fold with_set asked sets ≡ [] ∷ others) × (filter is_some others ≡ others)

either : (is_there : Bool) (asked more sets : List (List ℕ)) → Follow asked sets → Follow more sets → Follow (cond is_there asked more) sets
either true asked more sets as_it_was longer = as_it_was
either false asked more sets as_it_was longer = longer

some_follow : (sets others : List (List ℕ)) → filter is_some others ≡ others → Follow ([] ∷ others) sets
some_follow [] others some = (others, refl, some)
some_follow ([] ∷ sets) others some = some_follow sets others some
some_follow ((item ∷ items) ∷ sets) others some =
    let set = item ∷ items in
    let longer = filter-append is_some others (set ∷ []) ∙ ap (λ l. l ++ set ∷ []) some in
    either (list_any (pointwise nat_eq set) others) ([] ∷ others) ([] ∷ others ++ set ∷ []) sets (some_follow sets others some) (some_follow sets (others ++ set ∷ []) longer)

module _ (baskets : List Weighted) where
  beside : (sets : List (List ℕ)) → map counted_with (zip sets (map (support_of baskets) sets)) ≡ map (counted baskets) sets
  beside [] = refl
  beside (set ∷ sets) = ap (λ l. counted baskets set ∷ l) (beside sets)

  -- the total weight, and then the supports of the sets that have items, stand beside the sets that are asked for
  pub asked_counted : (sets asked : List (List ℕ)) (supports : List ℕ) → asked ≡ asked_of sets
      → supports ≡ total_of baskets ∷ map (support_of baskets) (filter is_some asked) → map counted_with (zip asked supports) ≡ map (counted baskets) asked
  asked_counted sets asked supports is are =
      let (others, first, some) = some_follow sets [] refl in
      let here = is ∙ first in
      let all : supports ≡ map (support_of baskets) ([] ∷ others) = are ∙ ap (λ l. total_of baskets ∷ map (support_of baskets) l) (ap (filter is_some) here ∙ some) in
      (λ i. map counted_with (zip (here i) (all i))) ∙ beside ([] ∷ others) ∙ sym (ap (map (counted baskets)) here)
