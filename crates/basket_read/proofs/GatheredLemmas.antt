-- Baskets that were gathered after others.
use Rattle.std.proofs.lemmas.Grind.{common_steps}
use Rattle.std.proofs.Common.{◌≡◌, ℕ, ◌+◌, ◌≤◌, ◌⊎◌, ◌||◌, Bool, true, false, List, [], ◌++◌, map, sym, ap, ◌∙◌, subst, arith}
use Rattle.std.proofs.lemmas.List.{map-append}
use Rattle.basket_sets.specs.declared.weighted.Weighted.{Weighted}
use Rattle.basket_sets.specs.Database.{MOST_WEIGHT, renamed_basket}
use Rattle.basket_sets.specs.ItemTable.{HasCounted}
use Rattle.basket_sets.specs.Itemset.{AllBelow, has}
use Rattle.basket_sets.specs.Support.{all_items, total_of}
use Rattle.basket_sets.proofs.theory.Counts.{items-append}
use Rattle.basket_sets.proofs.theory.Renaming.{renamed_total}
use Rattle.basket_read.specs.declared.gathered.GatheredBaskets.{GatheredBaskets}
use Rattle.basket_read.specs.GatheredBaskets.{HasBaskets, HasGathered}

module _ (gathered other : GatheredBaskets) where
  -- what they are after the counting that may follow
  pub joined : (new : GatheredBaskets) (counting apart : Bool) (baskets more : List Weighted) (h : HasGathered gathered counting baskets) (k : HasGathered other apart more)
      → gathered.heavy ≡ false → other.heavy ≡ false → new.heavy ≡ false → new.counting ≡ gathered.counting
      → gathered.table.total + total_of gathered.baskets + (other.table.total + total_of other.baskets) ≤ MOST_WEIGHT
      → ((gathered.counting ≡ true) × (gathered.baskets ≡ [])) ⊎ (other.counting ≡ false)
      → (now : List Weighted) × (gathered.counting ≡ false → now ≡ h.past ++ k.past) × HasCounted new.table now × (now ++ new.baskets ≡ (h.past ++ k.past) ++ (gathered.baskets ++ other.baskets))
      → HasGathered new counting (baskets ++ more)
  joined new counting apart baskets more h k h1 h2 h3 h4 h5 h6 h7 = grind (arith, common_steps)

-- baskets that are known not to weigh too much
module _ (gathered : GatheredBaskets) (counting : Bool) (baskets : List Weighted) (h : HasGathered gathered counting baskets) (light : gathered.heavy ≡ false) where
  all_kept : HasBaskets false (h.past ++ gathered.baskets) baskets
  all_kept = subst (λ b. HasBaskets b (h.past ++ gathered.baskets) baskets) light h.kept

  -- what is above all items is above those of the baskets that are past, and of the others
  pub past_below : (bound : ℕ) → AllBelow bound (all_items baskets) → AllBelow bound (all_items h.past)
  past_below bound below item e = below item (ap (λ l. has (all_items l) item) (sym all_kept.0) ∙ items-append h.past gathered.baskets item ∙ ap (λ b. b || has (all_items gathered.baskets) item) e)

  pub kept_below : (bound : ℕ) → AllBelow bound (all_items baskets) → AllBelow bound (all_items gathered.baskets)
  kept_below bound below item e = below item (ap (λ l. has (all_items l) item) (sym all_kept.0) ∙ items-append h.past gathered.baskets item ∙ or_right (has (all_items h.past) item) (has (all_items gathered.baskets) item) e)
    where
      or_right : (a b : Bool) → b ≡ true → (a || b) ≡ true
      or_right a b e = grind (arith, common_steps)

  -- the baskets under other names
  pub renamed_gathered : (new : GatheredBaskets) (names : List ℕ) → new.heavy ≡ gathered.heavy → new.counting ≡ gathered.counting → HasCounted new.table (map (renamed_basket names) h.past)
      → new.baskets ≡ map (renamed_basket names) gathered.baskets → HasGathered new counting (map (renamed_basket names) baskets)
  renamed_gathered new names heavy chosen counted is = record {
    chosen = chosen ∙ h.chosen;
    past = map (renamed_basket names) h.past;
    uncounted = λ e. ap (map (renamed_basket names)) (h.uncounted e);
    counted = counted;
    kept = subst (λ b. HasBaskets b (map (renamed_basket names) h.past ++ new.baskets) (map (renamed_basket names) baskets)) (sym (heavy ∙ light)) (
      ap (λ l. map (renamed_basket names) h.past ++ l) is ∙ sym (map-append (renamed_basket names) h.past gathered.baskets) ∙ ap (map (renamed_basket names)) all_kept.0,
      omega (arith, renamed_total names baskets, all_kept.1),
    );
  }
