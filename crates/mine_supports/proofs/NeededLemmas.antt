-- Baskets that can contain a set of so many items.
use Rattle.std.proofs.Common.{◌≡◌, ℕ, suc, ◌+◌, ◌<◌, ◌≤◌, ◌||◌, true, not, List, [], ◌∷◌, ◌++◌, length, take, get_or, Some, refl, sym, ◌∙◌, subst, inl, inr, arith}
use Rattle.std.proofs.lemmas.Grind.{common_steps}
use Rattle.std.specs.Prelude.{nat_eq}
use Rattle.std.specs.Cmp.{nat_eq_equiv}
use Rattle.std.specs.List.{All, list_any, slice_get}
use Rattle.std.proofs.lemmas.Bool.{cases_Bool, cond_both, le-leb, true≢false}
use Rattle.std.proofs.lemmas.List.{length_push, take_more}
use Rattle.std.proofs.lemmas.List.Elements.{All-append, All-from_recursion, All-map}
use Rattle.std.proofs.lemmas.List.Filters.{sum_by-filter_both}
use Rattle.std.proofs.lemmas.Map.Made.{length-le_from_is_member}
use Rattle.basket_sets.specs.declared.weighted.Weighted.{Weighted}
use Rattle.basket_sets.specs.Itemset.{IsRising, contains, has}
use Rattle.basket_sets.specs.Support.{support_of, total_of, weight_at}
use Rattle.basket_sets.proofs.theory.Members.{All-from_Member, Member, Member-append, Member-append_left, Member-append_right, Member-from_filter}
use Rattle.basket_sets.proofs.theory.Rising.{Member-from_has, cons_rises, contains-refl, contains_each, first_below, has-from_Member, has_each, nil_rises, rest_rises, rising_distinct}
use Rattle.basket_sets.proofs.theory.Support.{support-cons}
use Rattle.mine_supports.specs.Extensions.{Group, extend, lists_of, prefixes_of, sets_of}
use Rattle.mine_supports.specs.Needed.{AreAtLeast, IsAtLeast, is_needed, needed}
use Rattle.mine_supports.specs.UsedItems.{AreUsed}

-- ---- sets of at least so many items

-- the sets of one more prefix
pub at_least_more : (groups : List Group) (i : ℕ) (d : Group) (most least more : ℕ) → i < length groups → least ≤ most → least ≤ more → AreAtLeast most (sets_of (take i groups))
    → AreAtLeast more (extend (get_or groups i d).prefix (get_or groups i d).items) → AreAtLeast least (sets_of (take (i + 1) groups))
at_least_more groups i d most least more below le less before now = grind (arith, common_steps, take_more groups i d below)

-- a prefix has its items with any item more
pub prefix_at_least : (prefix items : List ℕ) → IsRising prefix → AreAtLeast (length prefix) (extend prefix items)
prefix_at_least prefix items up = All-map (IsAtLeast (length prefix)) (λ item. prefix ++ item ∷ []) items (λ k d below. record {
  some = prefix;
  rises = up;
  within = contains_each (prefix ++ get_or items k d ∷ []) prefix (λ item m. Member-append_left item prefix (get_or items k d ∷ []) m);
  enough = omega arith;
})

-- a set that rises still does with a greater last item
greater_last : (prefix : List ℕ) (first item : ℕ) → first ≤ item → IsRising (prefix ++ first ∷ []) → IsRising (prefix ++ item ∷ [])
greater_last [] first item le up = cons_rises item [] (λ y m. absurd m) nil_rises
greater_last (x ∷ prefix) first item le up = cons_rises x (prefix ++ item ∷ []) (λ y m. elim (Member-append y prefix (item ∷ []) m) [
  | inl a ↦ first_below x (prefix ++ first ∷ []) up y (Member-append_left y prefix (first ∷ []) a)
  | inr b ↦ elim b [
    | inl e ↦ (let less = first_below x (prefix ++ first ∷ []) up first (Member-append_right first prefix (first ∷ []) (inl refl)) in omega (arith, e, less, le))
    | inr n ↦ absurd n
  ]
]) (greater_last prefix first item le (rest_rises x (prefix ++ first ∷ []) up))

-- if the prefix rises with the first of rising items, it has one item more with each of them
pub extended_at_least : (prefix items : List ℕ) (first : ℕ) → IsRising items → slice_get items 0 ≡ Some first → IsRising (prefix ++ first ∷ []) → AreAtLeast (length prefix + 1) (extend prefix items)
extended_at_least prefix [] first rises is up = λ k d below. absurd (omega (arith, below))
extended_at_least prefix (x ∷ items) first rises is up =
    let same : first ≡ x = (let e : Some first ≡ Some x = sym is in cc) in
    All-map (IsAtLeast (length prefix + 1)) (λ item. prefix ++ item ∷ []) (x ∷ items)
    (All-from_recursion (λ item. IsAtLeast (length prefix + 1) (prefix ++ item ∷ [])) (x ∷ items)
    (All-from_Member (λ item. IsAtLeast (length prefix + 1) (prefix ++ item ∷ [])) (x ∷ items) (λ item m. record {
      some = prefix ++ item ∷ [];
      rises = greater_last prefix first item (elim m [ inl e ↦ omega (arith, same, e) | inr n ↦ (let less = first_below x items rises item n in omega (arith, same, less)) ]) up;
      within = contains-refl (prefix ++ item ∷ []);
      enough = omega (arith, length_push prefix item);
    })))

-- ---- sets of used items

item_used : (sets : List (List ℕ)) (first used : List ℕ) → AreUsed (first ∷ sets) used → (item : ℕ) → Member item first → Member item used
item_used sets first used all item m = Member-from_has used item (all 0 item (omega arith) (has-from_Member first item m))

pub sets_used : (groups : List Group) (used : List ℕ) → AreUsed (prefixes_of groups) used → AreUsed (lists_of groups) used → All (λ set. contains used set ≡ true) (sets_of groups)
sets_used [] used prefixes lists = λ k d below. absurd (omega (arith, below))
sets_used (group ∷ groups) used prefixes lists =
    All-append (λ set. contains used set ≡ true) (extend group.prefix group.items) (sets_of groups)
    (All-map (λ set. contains used set ≡ true) (λ item. group.prefix ++ item ∷ []) group.items
    (All-from_recursion (λ item. contains used (group.prefix ++ item ∷ []) ≡ true) group.items
    (All-from_Member (λ item. contains used (group.prefix ++ item ∷ []) ≡ true) group.items (λ item m.
    contains_each used (group.prefix ++ item ∷ []) (λ x n. elim (Member-append x group.prefix (item ∷ []) n) [
      | inl a ↦ item_used (prefixes_of groups) group.prefix used prefixes x a
      | inr b ↦ elim b [ inl e ↦ subst (λ y. Member y used) e (item_used (lists_of groups) group.items used lists item m) | inr none ↦ absurd none ]
    ])))))
    (sets_used groups used (λ k item below. prefixes (suc k) item (omega (arith, below))) (λ k item below. lists (suc k) item (omega (arith, below))))

-- ---- baskets that contain such a set

is_in : (items : List ℕ) (item : ℕ) → list_any (nat_eq item) items ≡ has items item
is_in [] item = refl
is_in (x ∷ items) item = (λ i. nat_eq_equiv.symm item x i || is_in items item i)

-- a rising list whose items are in another is no longer than it
no_longer : (set items : List ℕ) → IsRising set → ((item : ℕ) → Member item set → Member item items) → length set ≤ length items
no_longer set items up into =
    length-le_from_is_member nat_eq_equiv set items (rising_distinct set up)
    (λ item h. is_in items item ∙ has-from_Member items item (into item (Member-from_has set item (sym (is_in set item) ∙ h))))

module _ (used : List ℕ) (least : ℕ) where
  has_enough : (first : Weighted) (set : List ℕ) → contains used set ≡ true → IsAtLeast least set → contains first.basket set ≡ true → is_needed used least first ≡ true
  has_enough first set uses is holds = grind (arith, common_steps, no_longer, has_each, Member-from_filter, has-from_Member, le-leb)

  -- a set of used items has the support among those that are needed that it has among all
  pub needed_support : (set : List ℕ) → contains used set ≡ true → IsAtLeast least set → (baskets : List Weighted) → support_of (needed used least baskets) set ≡ support_of baskets set
  needed_support set uses is [] = refl
  needed_support set uses is (first ∷ baskets) = grind (arith, common_steps, needed_support set uses is baskets, cond_both, support-cons, cases_Bool, true≢false, has_enough)

  pub needed_total : (baskets : List Weighted) → total_of (needed used least baskets) ≤ total_of baskets
  needed_total baskets = omega (arith, sum_by-filter_both (is_needed used least) (λ b. not (is_needed used least b)) (λ b. refl) (weight_at []) baskets)
