-- Lists of counts whose items rise, by what a look-up finds in them, and what is known of items over two lists of baskets.
use Rattle.std.proofs.Common.{◌≡◌, ℕ, ◌<◌, ◌≤◌, true, false, ◌||◌, List, [], ◌∷◌, ◌++◌, map, cond, eqb, Option, Some, None, unwrap_or, refl, sym, ap, ◌∙◌, subst, inl, inr, arith}
use Rattle.std.proofs.lemmas.Grind.{common_steps}
use Rattle.std.specs.BTreeMap.{is_at}
use Rattle.std.specs.FinMap.Entries.{below_all, find, is_sorted, same_entries}
use Rattle.std.specs.Cmp.{nat_cmp_total}
use Rattle.std.specs.Map.{lookup}
use Rattle.std.specs.Ordering.{nat_cmp, is_eq, is_lt}
use Rattle.std.specs.Prelude.{T}
use Rattle.std.proofs.lemmas.Bool.{and_from, cases_lt, cond_both, false≢true}
use Rattle.std.proofs.lemmas.Bool.Decides.{nat_tests}
use Rattle.std.proofs.lemmas.List.Concat.{flat_map-append}
use Rattle.std.proofs.lemmas.Map.Lookups.{exact_unsigned}
use Rattle.basket_sets.specs.declared.weighted.Weighted.{Weighted}
use Rattle.basket_sets.specs.Counts.{item_supports, tally}
use Rattle.basket_sets.specs.Itemset.{IsRising, has}
use Rattle.basket_sets.specs.Slot.{slots_joined}
use Rattle.basket_sets.specs.Support.{support_of, total_of, all_items, items_of}
use Rattle.basket_sets.proofs.theory.Members.{Member}
use Rattle.basket_sets.proofs.theory.Rising.{Less-from_lt, first_below, has-append, has-rising, has-from_Member, rest_rises, rising-rises}
use Rattle.basket_sets.proofs.theory.Support.{support_falls, support-append, in_items}

-- ---- what a look-up finds

-- the number beside an item in a list of counts
abbrev pub found : List (ℕ × ℕ) → ℕ → Option ℕ
found counts item = lookup (is_at (nat_cmp item)) counts

pub is_at_eqb : (item x : ℕ) → is_eq (nat_cmp item x) ≡ eqb x item
is_at_eqb item x = grind (arith, nat_tests)

-- rising lists in which each item is found alike are equal
below_each : (item : ℕ) (counts : List (ℕ × ℕ)) → ((y : ℕ) → Member y (map (λ entry. entry.0) counts) → item < y) → below_all nat_cmp item counts ≡ true
below_each item [] below = refl
below_each item (entry ∷ counts) below = and_from _ _ (ap is_lt (Less-from_lt item entry.0 (below entry.0 (inl refl)))) (below_each item counts (λ y m. below y (inr m)))

sorted : (counts : List (ℕ × ℕ)) → IsRising (map (λ entry. entry.0) counts) → is_sorted nat_cmp counts ≡ true
sorted [] up = refl
sorted (entry ∷ counts) up = and_from _ _ (below_each entry.0 counts (first_below entry.0 _ up)) (sorted counts (rest_rises entry.0 _ up))

find_is : (item : ℕ) (counts : List (ℕ × ℕ)) → find nat_cmp item counts ≡ found counts item
find_is item [] = refl
find_is item (entry ∷ counts) = ap (cond (is_eq (nat_cmp item entry.0)) (Some entry.1)) (find_is item counts)

pub same_counts : (a b : List (ℕ × ℕ)) → IsRising (map (λ entry. entry.0) a) → IsRising (map (λ entry. entry.0) b) → ((item : ℕ) → found a item ≡ found b item) → a ≡ b
same_counts a b up over same = same_entries nat_cmp nat_cmp_total exact_unsigned a b (subst T (sym (sorted a up)) tt) (subst T (sym (sorted b over)) tt)
    (λ item. find_is item a ∙ same item ∙ sym (find_is item b))

-- items, each with its number
pub items_of_map : (f : ℕ → ℕ) (items : List ℕ) → map (λ (entry : ℕ × ℕ). entry.0) (map (λ x. (x, f x)) items) ≡ items
items_of_map f [] = refl
items_of_map f (x ∷ items) = ap (λ l. x ∷ l) (items_of_map f items)

pub found_mapped : (f : ℕ → ℕ) (items : List ℕ) (item : ℕ) → found (map (λ x. (x, f x)) items) item ≡ cond (has items item) (Some (f item)) None
found_mapped f [] item = refl
found_mapped f (x ∷ items) item = grind (arith, common_steps, found_mapped f items item)

-- ---- the supports of items

pub supports_rise : (counts : List (ℕ × ℕ)) (baskets : List Weighted) → counts ≡ item_supports baskets → IsRising (map (λ entry. entry.0) counts)
supports_rise counts baskets is =
    subst IsRising (sym (ap (map (λ entry. entry.0)) is ∙ items_of_map (λ item. support_of baskets (item ∷ [])) (items_of baskets))) (rising-rises (all_items baskets))

pub found_supports : (baskets : List Weighted) (item : ℕ) → found (item_supports baskets) item ≡ tally baskets item
found_supports baskets item =
    found_mapped (λ x. support_of baskets (x ∷ [])) (items_of baskets) item
    ∙ ap (λ b. cond b (Some (support_of baskets (item ∷ []))) None) (has-rising (all_items baskets) item)

-- a rising list that has for each item what is known of it
pub supports_are : (baskets : List Weighted) (counts : List (ℕ × ℕ)) → IsRising (map (λ entry. entry.0) counts) → ((item : ℕ) → found counts item ≡ tally baskets item) → counts ≡ item_supports baskets
supports_are baskets counts up known = grind (arith, common_steps, same_counts, supports_rise, found_supports)

-- ---- what is known of an item

pub support_absent : (baskets : List Weighted) (item : ℕ) → has (all_items baskets) item ≡ false → support_of baskets (item ∷ []) ≡ 0
support_absent baskets item h = elim (cases_lt 0 (support_of baskets (item ∷ []))) [
  | inl some ↦ absurd (false≢true (sym h ∙ has-from_Member (all_items baskets) item (in_items baskets (item ∷ []) some item (inl refl))))
  | inr none ↦ omega arith
]

-- as a number it is the support, and at most the total
pub tally_number : (baskets : List Weighted) (item : ℕ) → unwrap_or (tally baskets item) 0 ≡ support_of baskets (item ∷ [])
tally_number baskets item = cond_both (has (all_items baskets) item) _ _ (λ slot. unwrap_or slot 0 ≡ support_of baskets (item ∷ [])) (λ h. refl) (λ h. sym (support_absent baskets item h))

pub tally_fits : (baskets : List Weighted) (item : ℕ) → unwrap_or (tally baskets item) 0 ≤ total_of baskets
tally_fits baskets item = let e = tally_number baskets item in let falls = support_falls baskets (item ∷ []) [] refl in omega arith

-- over two lists of baskets
pub items-append : (a b : List Weighted) (item : ℕ) → has (all_items (a ++ b)) item ≡ (has (all_items a) item || has (all_items b) item)
items-append a b item = ap (λ l. has l item) (flat_map-append (λ receipt. receipt.basket) a b) ∙ has-append (all_items a) (all_items b) item

pub tally-append : (a b : List Weighted) (item : ℕ) → tally (a ++ b) item ≡ slots_joined (tally a item) (tally b item)
tally-append a b item = grind (arith, common_steps, items-append, support-append, support_absent)
