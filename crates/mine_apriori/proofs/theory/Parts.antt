-- The joins and the frequent sets of the parts of a level are those of the level.
use Rattle.std.proofs.Common.{◌≡◌, ℕ, ◌≤◌, Bool, List, [], ◌∷◌, ◌++◌, filter, map, refl, subst, sym, ap, ◌∙◌, arith}
use Rattle.std.proofs.lemmas.Grind.{common_steps}
use Rattle.std.specs.List.{All, flat_map, range_with_len}
use Rattle.std.proofs.lemmas.List.{map-append}
use Rattle.std.proofs.lemmas.List.Concat.{flat_map-append}
use Rattle.std.proofs.lemmas.List.Elements.{filter-append}
use Rattle.std.proofs.lemmas.List.Folds.{flat_map-map}
use Rattle.basket_ranks.specs.Codes.{Coding, decoded_set}
use Rattle.basket_ranks.specs.Shards.{shard_of}
use Rattle.basket_ranks.proofs.theory.Shards.{shards_are_all}
use Rattle.basket_sets.specs.declared.counted.Counted.{Counted}
use Rattle.basket_sets.specs.Frequent.{counted}
use Rattle.basket_sets.specs.Itemset.{IsRising}
use Rattle.basket_sets.specs.Order.{IsInReportOrder}
use Rattle.mine_apriori.specs.Candidates.{candidates_of}
use Rattle.mine_apriori.specs.Join.{joined_groups}
use Rattle.mine_apriori.specs.Levels.{decoded_sets}
use Rattle.mine_supports.specs.Extensions.{AreGrouped, Group, has_items, kept, sets_of}
use Rattle.mine_supports.proofs.theory.Extensions.{passing, sets_append}
use Rattle.mine_apriori.proofs.JoinedLemmas.{all_joined, candidates_grouped, join_of, level_joined}

-- what is found group by group, of parts one after another
module _ {X : Type 0} (of : List Group → List X) (none : of [] ≡ []) (more : (front back : List Group) → of (front ++ back) ≡ of front ++ of back) where
  in_a_row : (part : ℕ → List Group) (numbers : List ℕ) → flat_map (λ n. of (part n)) numbers ≡ of (flat_map part numbers)
  in_a_row part [] = sym none
  in_a_row part (n ∷ numbers) = grind (arith, common_steps, in_a_row part numbers)

  by_parts : (groups : List Group) (parts : ℕ) (values : List (List X)) → 1 ≤ parts → values ≡ map (λ part. of (shard_of part parts groups)) (range_with_len 0 parts)
      → flat_map (λ value. value) values ≡ of groups
  by_parts groups parts values some are =
      ap (flat_map (λ (value : List X). value)) are ∙ flat_map-map (λ (value : List X). value) (λ part. of (shard_of part parts groups)) (range_with_len 0 parts)
      ∙ in_a_row (λ part. shard_of part parts groups) (range_with_len 0 parts) ∙ ap of (shards_are_all parts groups some)

joined_by_parts : (sets : List (List ℕ)) (groups : List Group) (parts : ℕ) (values : List (List Group)) → 1 ≤ parts
    → values ≡ map (λ part. joined_groups sets (shard_of part parts groups)) (range_with_len 0 parts) → flat_map (λ value. value) values ≡ joined_groups sets groups
joined_by_parts sets =
    by_parts (joined_groups sets) refl
    (λ front back. ap (filter has_items) (flat_map-append (join_of sets) front back) ∙ filter-append has_items (all_joined sets front) (all_joined sets back))

module _ (groups : List Group) (parts : ℕ) (values : List (List Group)) (some : 1 ≤ parts)
    (are : values ≡ map (λ part. joined_groups (sets_of groups) (shard_of part parts groups)) (range_with_len 0 parts)) (grouped : AreGrouped groups) (order : IsInReportOrder (sets_of groups)) where
  pub candidates_by_parts : All IsRising (sets_of groups) → sets_of (flat_map (λ value. value) values) ≡ candidates_of (sets_of groups)
  candidates_by_parts rising = ap sets_of (joined_by_parts (sets_of groups) groups parts values some are) ∙ level_joined groups grouped order rising

  pub grouped_by_parts : AreGrouped (flat_map (λ value. value) values)
  grouped_by_parts = subst AreGrouped (sym (joined_by_parts (sets_of groups) groups parts values some are)) (candidates_grouped groups grouped order)

pub kept_by_parts : (passes : List ℕ → Bool) (groups : List Group) (parts : ℕ) (values : List (List Group)) → 1 ≤ parts
    → values ≡ map (λ part. kept passes (shard_of part parts groups)) (range_with_len 0 parts) → flat_map (λ value. value) values ≡ kept passes groups
kept_by_parts passes =
    by_parts (kept passes) refl
    (λ front back. ap (filter has_items) (map-append (passing passes) front back) ∙ filter-append has_items (map (passing passes) front) (map (passing passes) back))

pub found_by_parts : (coding : Coding) (passes : List ℕ → Bool) (groups : List Group) (parts : ℕ) (values : List (List Counted)) → 1 ≤ parts
    → values ≡ map (λ part. decoded_sets coding (filter passes (sets_of (shard_of part parts groups)))) (range_with_len 0 parts)
    → flat_map (λ value. value) values ≡ decoded_sets coding (filter passes (sets_of groups))
found_by_parts coding passes =
    by_parts (λ groups. decoded_sets coding (filter passes (sets_of groups))) refl
    (λ front back. ap (λ l. decoded_sets coding (filter passes l)) (sets_append front back) ∙ ap (decoded_sets coding) (filter-append passes (sets_of front) (sets_of back))
    ∙ map-append (λ set. decoded_set coding.items (counted coding.baskets set)) (filter passes (sets_of front)) (filter passes (sets_of back)))
