-- The parts of a level.
use Rattle.std.proofs.Common.{◌≡◌, ℕ, ◌+◌, ◌≤◌, Bool, List, map, filter, length, take, subst, sym, ap, ◌∙◌, arith}
use Rattle.std.proofs.lemmas.Grind.{common_steps}
use Rattle.std.specs.List.{All, flat_map, range_with_len}
use Rattle.std.specs.Prelude.{slice_range}
use Rattle.std.proofs.lemmas.List.{length-append, length-map}
use Rattle.std.proofs.lemmas.List.Folds.{flat_map-map}
use Rattle.basket_ranks.specs.Codes.{Coding}
use Rattle.basket_ranks.specs.Shards.{shard_of, shard_start}
use Rattle.basket_ranks.proofs.theory.Shards.{shard_more}
use Rattle.basket_sets.specs.declared.counted.Counted.{Counted}
use Rattle.basket_sets.specs.Itemset.{IsRising}
use Rattle.basket_sets.specs.Order.{IsInReportOrder}
use Rattle.mine_apriori.specs.Candidates.{candidates_of}
use Rattle.mine_apriori.specs.Join.{joined_groups}
use Rattle.mine_apriori.specs.Levels.{decoded_sets}
use Rattle.mine_apriori.proofs.theory.Parts.{candidates_by_parts, found_by_parts, grouped_by_parts, kept_by_parts}
use Rattle.mine_pieces.specs.Pieces.{HasEach}
use Rattle.mine_pieces.proofs.theory.Parts.{entries_by_part}
use Rattle.mine_supports.specs.Extensions.{AreGrouped, Group, kept, sets_of}
use Rattle.mine_supports.proofs.theory.Extensions.{count_within, sets_append}
use Rattle.mine_supports.proofs.theory.Parts.{counts_in_range}

-- the prefixes from where a part starts to where it ends are the part
pub range_is : (groups : List Group) (low high part parts n : ℕ) → n ≡ length groups → low ≡ shard_start part parts n → high ≡ shard_start (part + 1) parts n
    → slice_range groups low high ≡ shard_of part parts groups
range_is groups low high part parts n whole start end = grind (arith, common_steps)

-- one part more
pub before_more : (groups : List Group) (part parts : ℕ) → 1 ≤ parts
    → length (sets_of (take (shard_start (part + 1) parts (length groups)) groups)) ≡ length (sets_of (take (shard_start part parts (length groups)) groups)) + length (sets_of (shard_of part parts groups))
before_more groups part parts some = grind (arith, common_steps, shard_more, sets_append, length-append)

-- the counts of a part, among those of all sets
pub part_counts : (support : List ℕ → ℕ) (groups : List Group) (counts : List ℕ) (low high first count : ℕ) → counts ≡ map support (sets_of groups) → first ≡ length (sets_of (take low groups))
    → count ≡ length (sets_of (slice_range groups low high)) → slice_range counts first (first + count) ≡ map support (sets_of (slice_range groups low high))
part_counts support groups counts low high first count are start long = grind (arith, common_steps, counts_in_range)

-- they are no more than all counts
pub part_within : (support : List ℕ → ℕ) (groups : List Group) (counts : List ℕ) (low high first count : ℕ) → counts ≡ map support (sets_of groups) → first ≡ length (sets_of (take low groups))
    → count ≡ length (sets_of (slice_range groups low high)) → first + count ≤ length counts
part_within support groups counts low high first count are start long = grind (arith, common_steps, count_within, length-map)

-- ---- what is joined

module _ (groups : List Group) (parts : ℕ) (values : List (List Group)) (some : 1 ≤ parts)
    (has : HasEach (λ part found. found ≡ joined_groups (sets_of groups) (shard_of part parts groups)) parts values) (grouped : AreGrouped groups) (order : IsInReportOrder (sets_of groups)) where
  are : map (λ (value : List Group). value) values ≡ map (λ part. joined_groups (sets_of groups) (shard_of part parts groups)) (range_with_len 0 parts)
  are = entries_by_part (λ (value : List Group). value) (λ part. joined_groups (sets_of groups) (shard_of part parts groups)) parts values has

  whole : flat_map (λ (value : List Group). value) (map (λ (value : List Group). value) values) ≡ flat_map (λ value. value) values
  whole = flat_map-map (λ (value : List Group). value) (λ (value : List Group). value) values

  pub candidates_are : All IsRising (sets_of groups) → (found : List Group) → found ≡ flat_map (λ value. value) values → sets_of found ≡ candidates_of (sets_of groups)
  candidates_are rising found is = ap sets_of (is ∙ sym whole) ∙ candidates_by_parts groups parts (map (λ (value : List Group). value) values) some are grouped order rising

  pub candidates_are_grouped : (found : List Group) → found ≡ flat_map (λ value. value) values → AreGrouped found
  candidates_are_grouped found is = subst AreGrouped (sym (is ∙ sym whole)) (grouped_by_parts groups parts (map (λ (value : List Group). value) values) some are grouped order)

-- ---- what is frequent

module _ (coding : Coding) (passes : List ℕ → Bool) (groups : List Group) (parts : ℕ) (values : List (List Group × List Counted)) (some : 1 ≤ parts)
    (has : HasEach (λ part value. (value.0 ≡ kept passes (shard_of part parts groups)) × (value.1 ≡ decoded_sets coding (filter passes (sets_of (shard_of part parts groups))))) parts values) where
  pub level_is : flat_map (λ value. value.0) values ≡ kept passes groups
  level_is =
      sym (flat_map-map (λ (level : List Group). level) (λ (value : List Group × List Counted). value.0) values)
      ∙ kept_by_parts passes groups parts (map (λ (value : List Group × List Counted). value.0) values) some
      (entries_by_part (λ (value : List Group × List Counted). value.0) (λ part. kept passes (shard_of part parts groups)) parts values
      record { count = has.count; each = λ part value below. (has.each part value below).0 })

  pub found_is : flat_map (λ value. value.1) values ≡ decoded_sets coding (filter passes (sets_of groups))
  found_is =
      sym (flat_map-map (λ (sets : List Counted). sets) (λ (value : List Group × List Counted). value.1) values)
      ∙ found_by_parts coding passes groups parts (map (λ (value : List Group × List Counted). value.1) values) some
      (entries_by_part (λ (value : List Group × List Counted). value.1) (λ part. decoded_sets coding (filter passes (sets_of (shard_of part parts groups)))) parts values
      record { count = has.count; each = λ part value below. (has.each part value below).1 })
