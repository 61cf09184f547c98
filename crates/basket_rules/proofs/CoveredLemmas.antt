-- Marking sets, one subset after another.
use Rattle.std.proofs.Common.{IsTrue, ◌≡◌, ◌≢◌, ℕ, zero, suc, ◌+◌, ◌<◌, ◌≤◌, ◌⊎◌, Bool, false, List, [], ◌∷◌, length, get_or, set, refl, ap, arith}
use Rattle.std.proofs.lemmas.Grind.{common_steps}
use Rattle.std.proofs.lemmas.Bool.{cases_eq}
use Rattle.std.proofs.lemmas.List.{length-set}
use Rattle.basket_lists.specs.Without.{AreIndexesWithout}
use Rattle.basket_order.specs.declared.index_table.TheConstants.{NOWHERE}
use Rattle.basket_sets.specs.declared.counted.Counted.{Counted}
use Rattle.basket_sets.specs.Itemset.{IsRising, with_item, without}
use Rattle.basket_sets.proofs.theory.Rising.{rest_rises, with_item_by}
use Rattle.basket_sets.proofs.theory.Tests.{rising_at}
use Rattle.basket_rules.specs.declared.covered.Supersets.{Supersets}
use Rattle.basket_rules.specs.Covered.{AreMarks, IsBetween, Matters, WasSeen}
use Rattle.basket_rules.specs.Listed.{set_at, count_at}
use Rattle.basket_rules.specs.Search.{IsMissing}
use Rattle.basket_rules.specs.Subset.{IsWithout}
use Rattle.basket_rules.proofs.SearchLemmas.{none, set_is, stands_once}

-- ---- a set without the item by which it is longer

without_item : (item : ℕ) (items : List ℕ) (index : ℕ) → IsRising (with_item item items) → length (with_item item items) ≡ suc (length items) → index < length (with_item item items)
    → get_or (with_item item items) index 0 ≡ item → without index (with_item item items) ≡ items
without_item item [] zero up long within here = refl
without_item item [] (suc index) up long within here = absurd (omega (arith, within))
without_item item (x ∷ items) zero up long within here = with_item_by (λ l. length l ≡ suc (suc (length items)) → get_or l 0 0 ≡ item → without 0 l ≡ x ∷ items) item x items
    (λ less size first. refl) (λ same size first. absurd (omega (arith, size))) (λ more size first. absurd (omega (arith, more, first))) long here
without_item item (x ∷ items) (suc index) up long within here = with_item_by
    (λ l. IsRising l → length l ≡ suc (suc (length items)) → suc index < length l → get_or l (suc index) 0 ≡ item → without (suc index) l ≡ x ∷ items) item x items
    (λ less rises size inside last. absurd (let above = rising_at (item ∷ x ∷ items) 0 (suc index) rises (omega arith) inside in omega (arith, above, last)))
    (λ same rises size inside last. absurd (omega (arith, size)))
    (λ more rises size inside last. ap (λ l. x ∷ l) (without_item item items index (rest_rises x (with_item item items) rises) (omega (arith, size)) (omega (arith, inside)) last))
    up long within here

-- where a set stands without one of its items
pub found_below : (list : List Counted) (number index : ℕ) (found : List ℕ) → AreIndexesWithout list (set_at list number) 63 found → index < 63 → index < length (set_at list number)
    → get_or found index NOWHERE ≢ NOWHERE → (get_or found index NOWHERE < length list) × (set_at list (get_or found index NOWHERE) ≡ without index (set_at list number))
found_below list number index found all few within said = grind (arith, common_steps, none, without_item, set_is)

-- ---- what was gone over

-- after a step: what was before, and one item of one set
abbrev pub SeesOneMore : (ℕ → ℕ → Type 0) → (ℕ → ℕ → Type 0) → ℕ → ℕ → Type 0
SeesOneMore seen more number item = (above index : ℕ) → more above index → seen above index ⊎ ((above ≡ number) × (index ≡ item))

pub sees_one_more : (from number items : ℕ) → SeesOneMore (WasSeen from number items) (WasSeen from number (items + 1)) number items
sees_one_more h1 h2 h3 h4 h5 h6 = grind (arith, common_steps)

module _ (list : List Counted) (supersets : Supersets) where
  pub all_items : (from number items : ℕ) (marks : List Bool) → length (set_at list number) ≤ items → AreMarks list supersets (WasSeen from number items) marks → AreMarks list supersets (IsBetween from (number + 1)) marks
  all_items from number items marks whole = grind (arith, common_steps)

-- ---- one set without one of its items

module _ (list : List Counted) (supersets : Supersets) (seen more : ℕ → ℕ → Type 0) (sets items : ℕ) (step : SeesOneMore seen more sets items) where
  -- a subset that the list lacks
  pub subset_missing : (marks : List Bool) → AreMarks list supersets seen marks → IsMissing list (without items (set_at list sets)) → AreMarks list supersets more marks
  subset_missing marks all missing = grind (arith, common_steps)

  -- a subset that the list has
  pub subset_marked : (found : ℕ) (marks : List Bool) (mark : Bool) → AreMarks list supersets seen marks → IsWithout list sets items found → found < length list
      → (IsTrue mark → IsTrue (get_or marks found false) ⊎ Matters supersets (count_at list found) (count_at list sets))
      → (IsTrue (get_or marks found false) ⊎ Matters supersets (count_at list found) (count_at list sets) → IsTrue mark)
      → AreMarks list supersets more (set marks found mark)
  subset_marked found marks mark all is' within why then = grind (arith, common_steps, length-set, cases_eq, stands_once)
