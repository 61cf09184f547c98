-- The ranks that a conditional database keeps.
use Rattle.std.proofs.Common.{◌≡◌, ℕ, ◌<◌, ◌≤◌, Bool, true, ◌&&◌, List, [], ◌∷◌, length, leb, map, ltb, refl, ap, arith}
use Rattle.std.proofs.lemmas.Grind.{common_steps}
use Rattle.std.specs.List.{range_with_len}
use Rattle.std.proofs.lemmas.Bool.{and_parts, ltb-true}
use Rattle.std.proofs.lemmas.List.FromFn.{length-range_with_len}
use Rattle.basket_sets.specs.declared.weighted.Weighted.{Weighted}
use Rattle.basket_sets.specs.declared.minimum.Minimum.TheVariants.{Count}
use Rattle.basket_sets.specs.Counts.{AllBelow}
use Rattle.basket_sets.specs.Frequent.{is_frequent}
use Rattle.basket_sets.specs.Itemset.{IsRising, has}
use Rattle.basket_sets.specs.Support.{support_of}
use Rattle.basket_sets.proofs.theory.Members.{Member, Member-filter, Member-from_filter}
use Rattle.basket_sets.proofs.theory.Rising.{Member-from_has, has-from_Member, length-le-contains, same_test}
use Rattle.basket_sets.proofs.theory.Ranges.{Member-into_range, filtered_range_rises, range_rises}
use Rattle.mine_classes.specs.Conditional.{is_kept}
use Rattle.mine_pairs.specs.Pairs.{kept_ranks, pairs_of}

-- what has a least support is in one basket or more
pub met_alone : (least support : ℕ) → 1 ≤ least → (leb 1 support && leb least support) ≡ leb least support
met_alone least support some = grind (arith, common_steps)

module _ (baskets : List Weighted) (least rank : ℕ) where
  abbrev keeps : ℕ → Bool
  keeps other = is_kept baskets least rank other

  abbrev kept : List ℕ
  kept = kept_ranks baskets least rank

  pub kept_rises : IsRising kept
  kept_rises = filtered_range_rises keeps 0 rank

  pub kept_lower : (other : ℕ) → keeps other ≡ true → other < rank
  kept_lower other h = ltb-true other rank (and_parts (ltb other rank) (is_frequent baskets (Count least) (other ∷ rank ∷ [])) h).0

  pub Member-kept : (other : ℕ) → keeps other ≡ true → Member other kept
  Member-kept other h = Member-from_filter keeps other (range_with_len 0 rank) (Member-into_range 0 rank other (omega arith) (let less = kept_lower other h in omega arith)) h

  pub has_kept : (other : ℕ) → has kept other ≡ keeps other
  has_kept other = grind (arith, common_steps, same_test, Member-filter, Member-from_has, has-from_Member, Member-kept)

  pub kept_below : AllBelow rank kept
  kept_below other h = kept_lower other (Member-filter keeps other (range_with_len 0 rank) (Member-from_has kept other h)).1

  pub kept_short : length kept ≤ rank
  kept_short =
      omega (
        arith,
        length-range_with_len 0 rank,
        length-le-contains kept (range_with_len 0 rank) kept_rises (range_rises 0 rank) (λ z m. (Member-filter keeps z (range_with_len 0 rank) m).0),
      )

  -- the first ranks of a rank's pairs are those that are kept
  pub pair_ranks : map (λ (pair : ℕ × ℕ). pair.0) (pairs_of baskets least rank) ≡ kept
  pair_ranks = go kept
    where
      go : (ranks : List ℕ) → map (λ (pair : ℕ × ℕ). pair.0) (map (λ other. (other, support_of baskets (other ∷ rank ∷ []))) ranks) ≡ ranks
      go [] = refl
      go (first ∷ ranks) = ap (λ l. first ∷ l) (go ranks)
