-- A merged database is a database, and what the map of weights does with one more basket.
use Rattle.std.proofs.Common.{◌≡◌, ℕ, ◌+◌, ◌≤◌, List, [], ◌∷◌, nat_eq, map, unwrap_or, sym, ap, subst, zero-add, arith}
use Rattle.std.proofs.lemmas.Grind.{common_steps}
use Rattle.std.specs.Cmp.Lexicographic.{pointwise}
use Rattle.std.specs.Map.{lookup}
use Rattle.std.proofs.lemmas.List.Elements.{All-from_recursion, recursion_from_All}
use Rattle.indexmap.specs.IndexMap.{insert_entry}
use Rattle.basket_sets.specs.declared.weighted.Weighted.{Weighted}
use Rattle.basket_sets.specs.Database.{weighted, with_basket, merged_of, IsBasket, IsDatabase, MOST_WEIGHT}
use Rattle.basket_sets.specs.Merge.{as_weighted}
use Rattle.basket_sets.specs.Support.{total_of}
use Rattle.basket_sets.proofs.theory.Merging.{merged_baskets, length-merged_of, merging_keeps_supports}

pub merged_is_database : (baskets : List Weighted) → IsDatabase baskets → IsDatabase (merged_of baskets)
merged_is_database baskets are = record {
  each = All-from_recursion IsBasket (merged_of baskets) (merged_baskets IsBasket (λ receipt more its. (its.0, its.1, omega (arith, its.2))) baskets (recursion_from_All IsBasket baskets are.each));
  few = omega (arith, length-merged_of baskets, are.few);
  light = subst (λ n. n ≤ MOST_WEIGHT) (sym (merging_keeps_supports baskets [])) are.light;
}

module _ (basket : List ℕ) where
  -- the weight that a basket has so far
  abbrev pub weight_before : List (List ℕ × ℕ) → ℕ
  weight_before entries = unwrap_or (lookup (pointwise nat_eq basket) entries) 0

  -- inserting it with more weight adds the weight to its equal, or it at the end
  pub inserted : (weight : ℕ) (entries : List (List ℕ × ℕ))
      → map as_weighted (insert_entry (pointwise nat_eq) entries basket (weight_before entries + weight)) ≡ with_basket (map as_weighted entries) (weighted basket weight)
  inserted weight [] = ap (λ n. weighted basket n ∷ []) (zero-add weight)
  inserted weight (entry ∷ entries) = grind (arith, common_steps, inserted weight entries)

  pub light_before : (entries : List (List ℕ × ℕ)) → weight_before entries ≤ total_of (map as_weighted entries)
  light_before [] = omega arith
  light_before (entry ∷ entries) = grind (arith, common_steps, light_before entries)
