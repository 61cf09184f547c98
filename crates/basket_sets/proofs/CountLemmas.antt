-- Counting items in a table: its slots while the receipts are added, and the entries that it gives in the end.
use Rattle.std.proofs.Common.{◌≡◌, ℕ, ◌+◌, ◌<◌, ◌≤◌, true, List, [], ◌∷◌, ◌++◌, length, take, get_or, map, cond, Option, Some, None, refl, sym, ap, ◌∙◌, inl, inr, arith, add-zero, zero-add, ◌-◌, zero, suc}
use Rattle.std.proofs.lemmas.Grind.{common_steps}
use Rattle.std.specs.List.{IsDistinct}
use Rattle.std.specs.Prelude.{nat_eq}
use Rattle.std.proofs.lemmas.List.{append-nil, length-take, take_more, get_or_default}
use Rattle.std.proofs.lemmas.Bool.{cases_lt, or_cases, cond-false}
use Rattle.std.proofs.lemmas.Map.Keys.{below_from_sorted}
use Rattle.basket_sets.specs.declared.weighted.Weighted.{Weighted}
use Rattle.basket_sets.specs.Itemset.{IsRising, has}
use Rattle.basket_sets.specs.Counts.{item_supports, tally, IsTable, AllBelow, entries_from, entries_of}
use Rattle.basket_sets.specs.ItemTable.{Tabled, HasCounted}
use Rattle.basket_sets.specs.Slot.{slot_with, slots_joined}
use Rattle.basket_sets.specs.Support.{weight_at, all_items}
use Rattle.basket_sets.proofs.theory.Counts.{found, items-append, supports_are, tally-append}
use Rattle.basket_sets.proofs.theory.Members.{Member, Contains-from_Member, Member-from_Contains, Member-into_flat_map}
use Rattle.basket_sets.proofs.theory.Numerals.{and_true}
use Rattle.basket_sets.proofs.theory.Rising.{has-from_Member, not_before, Member-from_has, nil_rises, cons_rises}
use Rattle.basket_sets.proofs.theory.Support.{support-append}

-- ---- the items of the baskets so far

pub all_items_more : (baskets : List Weighted) (i : ℕ) (d : Weighted) → i < length baskets → all_items (take (i + 1) baskets) ≡ all_items (take i baskets) ++ (get_or baskets i d).basket
all_items_more baskets i d below = grind (arith, common_steps)

-- the last of a rising list is its greatest
pub last_is_greatest : (items : List ℕ) → IsRising items → (x : ℕ) → has items x ≡ true → x ≤ get_or items (length items - 1) 0
last_is_greatest items up x h =
    let c = Contains-from_Member x items (Member-from_has items x h) in
    let at : get_or items c.0 0 ≡ x = get_or_default items c.0 0 x c.1 ∙ c.2 in
    grind (arith, common_steps, cases_lt, below_from_sorted)

-- one more basket, whose greatest item is `last`, or which has none
pub below_more : (a b : List ℕ) (before greatest : ℕ) → AllBelow (before + 1) a → ((x : ℕ) → has b x ≡ true → x ≤ greatest) → before ≤ greatest → AllBelow (greatest + 1) (a ++ b)
below_more a b before greatest old new more x h = grind (arith, common_steps)

-- ---- a receipt is added to the table

-- after the first i items of the receipt
abbrev pub HasAdded : List (Option ℕ) → ℕ → List ℕ → List (Option ℕ) → Type 0
HasAdded old weight items table =
    (number : ℕ) → get_or table number None ≡ cond (has items number) (slot_with weight (get_or old number None)) (get_or old number None)

pub slot_before : (items : List ℕ) (old table : List (Option ℕ)) (i weight : ℕ) → IsDistinct nat_eq items → i < length items → HasAdded old weight (take i items) table
    → get_or table (get_or items i 0) None ≡ get_or old (get_or items i 0) None
slot_before items old table i weight distinct below added = added (get_or items i 0) ∙ cond-false _ _ _ (not_before items i distinct below)

-- ---- the table after so many receipts

pub weight_of_item : (receipt : Weighted) (item : ℕ) → weight_at (item ∷ []) receipt ≡ cond (has receipt.basket item) receipt.weight 0
weight_of_item receipt item = ap (λ b. cond b receipt.weight 0) (and_true (has receipt.basket item))

-- what is known of an item after one more receipt
pub tally_push : (before : List Weighted) (receipt : Weighted) (item : ℕ)
    → cond (has receipt.basket item) (slot_with receipt.weight (tally before item)) (tally before item) ≡ tally (before ++ receipt ∷ []) item
tally_push before receipt item = grind (arith, common_steps, tally-append, append-nil, weight_of_item)

-- the table after one more receipt
pub table_push : (before : List Weighted) (receipt : Weighted) (old table : List (Option ℕ)) → length table ≡ length old
    → HasAdded old receipt.weight receipt.basket table → IsTable before old → IsTable (before ++ receipt ∷ []) table
table_push before receipt old table long added so_far item within = grind (arith, common_steps, tally_push)

-- a table knows each item that it has a slot for
pub table_knows : (baskets : List Weighted) (table : List (Option ℕ)) → IsTable baskets table → AllBelow (length table) (all_items baskets) → (item : ℕ) → get_or table item None ≡ tally baskets item
table_knows baskets table is within item = grind (arith, common_steps)

-- the table after one more basket
pub counted_push : (before : List Weighted) (receipt : Weighted) (old : Tabled) (slots : List (Option ℕ)) (total : ℕ) → HasCounted old before → AllBelow (length old.slots) receipt.basket
    → length slots ≡ length old.slots → total ≡ old.total + receipt.weight → HasAdded old.slots receipt.weight receipt.basket slots
    → HasCounted (record { slots = slots; total = total }) (before ++ receipt ∷ [])
counted_push before receipt old slots total counted below long sum added = grind (arith, common_steps, table_push, or_cases, support-append, items-append, append-nil)

-- the tables of two lists of baskets, put together
pub counted_both : (before more : List Weighted) (a b : Tabled) (slots : List (Option ℕ)) (total : ℕ) → HasCounted a before → HasCounted b more
    → length b.slots ≤ length slots → length slots ≡ length a.slots → total ≡ a.total + b.total
    → ((item : ℕ) → get_or slots item None ≡ slots_joined (get_or a.slots item None) (get_or b.slots item None))
    → HasCounted (record { slots = slots; total = total }) (before ++ more)
counted_both before more a b slots total counted also shorter long sum joined = grind (arith, common_steps, table_knows, tally-append, or_cases, items-append, support-append)

-- ---- the entries of a table

pub entries-append : (number : ℕ) (front : List (Option ℕ)) (back : List (Option ℕ)) → entries_from number (front ++ back) ≡ entries_from number front ++ entries_from (number + length front) back
entries-append number [] back = ap (λ n. entries_from n back) (sym (add-zero number))
entries-append number (None ∷ front) back = grind (arith, common_steps, entries-append (number + 1) front back)
entries-append number (Some support ∷ front) back = grind (arith, common_steps, entries-append (number + 1) front back)

-- the entry of one slot, if it has something
abbrev pub entry_at : ℕ → Option ℕ → List (ℕ × ℕ)
entry_at number slot = entries_from number (slot ∷ [])

pub entries_more : (table : List (Option ℕ)) (i : ℕ) → i < length table → entries_of (take (i + 1) table) ≡ entries_of (take i table) ++ entry_at i (get_or table i None)
entries_more table i below = grind (arith, common_steps, take_more, entries-append, length-take)

-- the numbers of the slots that have something
abbrev numbers_from : ℕ → List (Option ℕ) → List ℕ
numbers_from number slots = map (λ (entry : ℕ × ℕ). entry.0) (entries_from number slots)

at_least : (number : ℕ) (slots : List (Option ℕ)) (x : ℕ) → Member x (numbers_from number slots) → number ≤ x
at_least number [] x m = absurd m
at_least number (None ∷ slots) x m = let n = at_least (number + 1) slots x m in omega arith
at_least number (Some support ∷ slots) x (inl e) = omega arith
at_least number (Some support ∷ slots) x (inr m) = let n = at_least (number + 1) slots x m in omega arith

pub numbers_rise : (number : ℕ) (slots : List (Option ℕ)) → IsRising (numbers_from number slots)
numbers_rise number [] = nil_rises
numbers_rise number (None ∷ slots) = numbers_rise (number + 1) slots
numbers_rise number (Some support ∷ slots) =
    cons_rises number (numbers_from (number + 1) slots) (λ y m. let n = at_least (number + 1) slots y m in omega arith) (numbers_rise (number + 1) slots)

-- what a look-up finds among them is what the table has there
found_below : (slots : List (Option ℕ)) (number item : ℕ) → item < number → found (entries_from number slots) item ≡ None
found_below [] number item below = refl
found_below (None ∷ slots) number item below = found_below slots (number + 1) item (omega arith)
found_below (Some support ∷ slots) number item below = grind (arith, common_steps, found_below slots (number + 1) item (omega arith))

found_entry : (slots : List (Option ℕ)) (number j : ℕ) → found (entries_from number slots) (number + j) ≡ get_or slots j None
found_entry [] number j = refl
found_entry (None ∷ slots) number zero = found_below slots (number + 1) (number + 0) (omega arith)
found_entry (None ∷ slots) number (suc j) = grind (arith, common_steps, found_entry slots (number + 1) j)
found_entry (Some support ∷ slots) number zero = grind (arith, common_steps)
found_entry (Some support ∷ slots) number (suc j) = grind (arith, common_steps, found_entry slots (number + 1) j)

pub table_entries : (baskets : List Weighted) (table : List (Option ℕ)) → IsTable baskets table → AllBelow (length table) (all_items baskets) → entries_of table ≡ item_supports baskets
table_entries baskets table is within = supports_are baskets (entries_of table) (numbers_rise 0 table)
    (λ item. ap (found (entries_of table)) (sym (zero-add item)) ∙ found_entry table 0 item ∙ table_knows baskets table is within item)

-- an item of a basket is among all items
pub item_of_basket : (baskets : List Weighted) (i : ℕ) (receipt : Weighted) → i < length baskets → receipt ≡ get_or baskets i receipt → (x : ℕ) → has receipt.basket x ≡ true → has (all_items baskets) x ≡ true
item_of_basket baskets i receipt below is x h =
    has-from_Member (all_items baskets) x (Member-into_flat_map (λ (p : Weighted). p.basket) x receipt baskets (Member-from_Contains receipt baskets (i, below, sym is)) (Member-from_has receipt.basket x h))
