-- Counts are added, and the supports of items over parts add up.
use Rattle.std.proofs.Common.{◌≡◌, ℕ, ◌+◌, ◌<◌, ◌≤◌, ◌^◌, Bool, true, false, ◌||◌, List, [], ◌∷◌, ◌++◌, Some, None, cond, eqb, unwrap_or, refl, sym, ap, ◌∙◌, subst, inl, inr, ◌⊎◌, arith, zero-add}
use Rattle.std.proofs.lemmas.Grind.{common_steps}
use Rattle.std.specs.declared.cmp.Ordering.TheVariants.{Less, Equal, Greater}
use Rattle.std.specs.Ordering.{nat_cmp}
use Rattle.std.proofs.Math.Bool.{or_assoc}
use Rattle.std.proofs.lemmas.Bool.{cond-true, cond_both, eq-eqb, eqb-true, false_from_ne_true}
use Rattle.std.proofs.lemmas.Bool.Decides.{nat_tests}
use Rattle.std.proofs.lemmas.List.{append-nil, map-append}
use Rattle.std.proofs.lemmas.List.Sums.{sum_by-append, sum_by-cons}
use Rattle.basket_sets.specs.declared.weighted.Weighted.{Weighted}
use Rattle.basket_sets.specs.Counts.{item_supports}
use Rattle.basket_sets.specs.Database.{MOST_WEIGHT}
use Rattle.basket_sets.specs.Itemset.{IsRising, has, rising}
use Rattle.basket_sets.specs.Support.{support_of, total_of, items_of, all_items}
use Rattle.basket_sets.proofs.theory.Counts.{found, found_mapped, found_supports, is_at_eqb, items-append, same_counts, tally_number}
use Rattle.basket_sets.proofs.theory.Members.{Member, Member-append, Member-append_left, Member-append_right}
use Rattle.basket_sets.proofs.theory.Rising.{cons_rises, first_below, has-append, has-rising, Member-from_has, rest_rises, rising-rises}
use Rattle.basket_sets.proofs.theory.Support.{support-append, support_falls}
use Rattle.basket_ranks.specs.Added.{items_of_counts, number_of, added_counts, ItemSupportsAddUp}
pub use Rattle.basket_sets.proofs.theory.Counts.{items_of_map, supports_rise}

-- ---- what a look-up finds in a list of counts whose items rise: the number of an item that is there

number-cons : (entry : ℕ × ℕ) (counts : List (ℕ × ℕ)) (item : ℕ) → number_of (entry ∷ counts) item ≡ cond (eqb entry.0 item) entry.1 0 + number_of counts item
number-cons entry counts item = sum_by-cons (λ (e : ℕ × ℕ). cond (eqb e.0 item) e.1 0) entry counts

number_absent : (counts : List (ℕ × ℕ)) (item : ℕ) → has (items_of_counts counts) item ≡ false → number_of counts item ≡ 0
number_absent [] item none = refl
number_absent (entry ∷ counts) item none = grind (arith, common_steps, number_absent counts item)

found_is : (counts : List (ℕ × ℕ)) (item : ℕ) → IsRising (items_of_counts counts) → found counts item ≡ cond (has (items_of_counts counts) item) (Some (number_of counts item)) None
found_is [] item up = refl
found_is (entry ∷ counts) item up =
    ap (λ b. cond b (Some entry.1) (found counts item)) (is_at_eqb item entry.0)
    ∙ at (found_is counts item (rest_rises entry.0 _ up)) (eqb entry.0 item) refl
    ∙ ap (λ n. cond (has (items_of_counts (entry ∷ counts)) item) (Some n) None) (sym (number-cons entry counts item))
  where
    absent : eqb entry.0 item ≡ true → number_of counts item ≡ 0
    absent here = number_absent counts item (false_from_ne_true _ (λ h. let below = first_below entry.0 _ up item (Member-from_has _ item h) in let same = eqb-true entry.0 item here in omega arith))

    at : found counts item ≡ cond (has (items_of_counts counts) item) (Some (number_of counts item)) None → (b : Bool) → eqb entry.0 item ≡ b
        → cond b (Some entry.1) (found counts item) ≡ cond (b || has (items_of_counts counts) item) (Some (cond b entry.1 0 + number_of counts item)) None
    at later b here = grind (arith, absent)

-- ---- the sums of two lists are the only rising list that has their items, each with the sum of its numbers

pub added_rise : (a b : List (ℕ × ℕ)) → IsRising (items_of_counts (added_counts a b))
added_rise a b =
    subst IsRising (sym (items_of_map (λ item. number_of a item + number_of b item) (rising (items_of_counts a ++ items_of_counts b)))) (rising-rises (items_of_counts a ++ items_of_counts b))

added_are : (counts a b : List (ℕ × ℕ)) → IsRising (items_of_counts counts) → ((item : ℕ) → has (items_of_counts counts) item ≡ has (items_of_counts a ++ items_of_counts b) item)
    → ((item : ℕ) → number_of counts item ≡ number_of a item + number_of b item) → counts ≡ added_counts a b
added_are counts a b up items numbers = same_counts counts (added_counts a b) up (added_rise a b) (λ item.
    found_is counts item up ∙ (λ i. cond ((items item ∙ sym (has-rising (items_of_counts a ++ items_of_counts b) item)) i) (Some (numbers item i)) None)
    ∙ sym (found_mapped (λ x. number_of a x + number_of b x) (rising (items_of_counts a ++ items_of_counts b)) item))

-- ---- two lists added from their fronts

-- what is so far, and what is left of either list
pub record Leaves (counts ours theirs a b : List (ℕ × ℕ)) : Type 0 where
  pub ours_rise : IsRising (items_of_counts counts ++ items_of_counts ours)
  pub theirs_rise : IsRising (items_of_counts counts ++ items_of_counts theirs)
  pub items : (item : ℕ) → (has (items_of_counts counts) item || (has (items_of_counts ours) item || has (items_of_counts theirs) item)) ≡ has (items_of_counts a ++ items_of_counts b) item
  pub numbers : (item : ℕ) → number_of counts item + (number_of ours item + number_of theirs item) ≡ number_of a item + number_of b item

pub none_yet : (a b : List (ℕ × ℕ)) → IsRising (items_of_counts a) → IsRising (items_of_counts b) → Leaves [] a b a b
none_yet a b up over = record { ours_rise = up; theirs_rise = over; items = λ item. sym (has-append (items_of_counts a) (items_of_counts b) item); numbers = λ item. zero-add _ }

rises_between : (xs : List ℕ) (x y : ℕ) (ys zs : List ℕ) → x < y → IsRising (xs ++ x ∷ ys) → IsRising (xs ++ y ∷ zs) → IsRising (xs ++ x ∷ y ∷ zs)
rises_between [] x y ys zs less up over =
    cons_rises x (y ∷ zs) (λ z m. elim m [ inl e ↦ omega arith | inr n ↦ (let b = first_below y zs over z n in omega arith) ]) over
rises_between (w ∷ xs) x y ys zs less up over = cons_rises w (xs ++ x ∷ y ∷ zs) below (rises_between xs x y ys zs less (rest_rises w _ up) (rest_rises w _ over))
  where
    below : (z : ℕ) → Member z (xs ++ x ∷ y ∷ zs) → w < z
    below z m = elim (Member-append z xs (x ∷ y ∷ zs) m) [
      | inl n ↦ first_below w _ over z (Member-append_left z xs (y ∷ zs) n)
      | inr (inl e) ↦ first_below w _ up z (Member-append_right z xs (x ∷ ys) (inl e))
      | inr (inr n) ↦ first_below w _ over z (Member-append_right z xs (y ∷ zs) n)
    ]

swapped : (p q r : Bool) → (q || (p || r)) ≡ (p || (q || r))
swapped p q r = grind arith

module _ (counts ours theirs a b rest others : List (ℕ × ℕ)) (first other : ℕ × ℕ) (our : ours ≡ first ∷ rest) (their : theirs ≡ other ∷ others) (leaves : Leaves counts ours theirs a b) where
  before : Leaves counts (first ∷ rest) (other ∷ others) a b
  before = subst (λ l. Leaves counts l (other ∷ others) a b) our (subst (λ l. Leaves counts ours l a b) their leaves)

  -- an entry is put after the counts
  put : (entry : ℕ × ℕ) (left right : List (ℕ × ℕ)) → IsRising (items_of_counts counts ++ entry.0 ∷ items_of_counts left) → IsRising (items_of_counts counts ++ entry.0 ∷ items_of_counts right)
      → ((item : ℕ) → (eqb entry.0 item || (has (items_of_counts left) item || has (items_of_counts right) item)) ≡ (has (items_of_counts (first ∷ rest)) item || has (items_of_counts (other ∷ others)) item))
      → ((item : ℕ) → cond (eqb entry.0 item) entry.1 0 + (number_of left item + number_of right item) ≡ number_of (first ∷ rest) item + number_of (other ∷ others) item)
      → Leaves (counts ++ entry ∷ []) left right a b
  put entry left right up over items numbers = grind (arith, common_steps)

  pub put_less : Less ≡ nat_cmp first.0 other.0 → Leaves (counts ++ first ∷ []) rest theirs a b
  put_less less = grind (arith, common_steps, put, rises_between, nat_tests, or_assoc, number-cons)

  pub put_greater : Greater ≡ nat_cmp first.0 other.0 → Leaves (counts ++ other ∷ []) ours others a b
  put_greater greater = grind (arith, common_steps, put, rises_between, nat_tests, swapped, number-cons)

  same_item : Equal ≡ nat_cmp first.0 other.0 → first.0 ≡ other.0
  same_item equal = grind (arith, nat_tests, equal)

  pub put_equal : Equal ≡ nat_cmp first.0 other.0 → Leaves (counts ++ (first.0, first.1 + other.1) ∷ []) rest others a b
  put_equal equal = grind (arith, common_steps)

  -- the numbers of one item fit together
  pub numbers_fit : ((item : ℕ) → number_of a item + number_of b item < 2 ^ 64) → Equal ≡ nat_cmp first.0 other.0 → first.1 + other.1 < 2 ^ 64
  numbers_fit fits equal =
      let e = number-cons first rest first.0 ∙ ap (λ n. n + number_of rest first.0) (cond-true _ first.1 0 (eq-eqb first.0 first.0 refl)) in
      let f = number-cons other others first.0 ∙ ap (λ n. n + number_of others first.0) (cond-true _ other.1 0 (eq-eqb other.0 first.0 (sym (same_item equal)))) in
      let g = before.numbers first.0 in let h = fits first.0 in omega arith

-- one of the lists is at its end, and what is left of the other stands after the counts
pub none_left : (counts ours theirs a b : List (ℕ × ℕ)) → Leaves counts ours theirs a b → (ours ≡ []) ⊎ (theirs ≡ []) → (counts ++ ours) ++ theirs ≡ added_counts a b
none_left counts ours theirs a b leaves ended = added_are ((counts ++ ours) ++ theirs) a b (subst IsRising (sym parts) rises)
    (λ item. ap (λ l. has l item) parts ∙ has-append _ (items_of_counts theirs) item
    ∙ ap (λ t. t || has (items_of_counts theirs) item) (has-append (items_of_counts counts) (items_of_counts ours) item)
    ∙ or_assoc (has (items_of_counts counts) item) (has (items_of_counts ours) item) (has (items_of_counts theirs) item) ∙ leaves.items item)
    (λ item. let f = λ (e : ℕ × ℕ). cond (eqb e.0 item) e.1 0 in let e = sum_by-append f (counts ++ ours) theirs in let g = sum_by-append f counts ours in let n = leaves.numbers item in omega arith)
  where
    parts : items_of_counts ((counts ++ ours) ++ theirs) ≡ (items_of_counts counts ++ items_of_counts ours) ++ items_of_counts theirs
    parts = map-append (λ (e : ℕ × ℕ). e.0) (counts ++ ours) theirs ∙ ap (λ l. l ++ items_of_counts theirs) (map-append (λ (e : ℕ × ℕ). e.0) counts ours)

    rises : IsRising ((items_of_counts counts ++ items_of_counts ours) ++ items_of_counts theirs)
    rises = elim ended [
      | inl e ↦ subst (λ l. IsRising ((items_of_counts counts ++ items_of_counts l) ++ items_of_counts theirs)) (sym e) (subst (λ l. IsRising (l ++ items_of_counts theirs)) (sym (append-nil (items_of_counts counts))) leaves.theirs_rise)
      | inr e ↦ subst (λ l. IsRising ((items_of_counts counts ++ items_of_counts ours) ++ items_of_counts l)) (sym e) (subst IsRising (sym (append-nil (items_of_counts counts ++ items_of_counts ours))) leaves.ours_rise)
    ]

-- ---- the supports of items

-- the number of each item is its support
number_is_support : (baskets : List Weighted) (item : ℕ) → number_of (item_supports baskets) item ≡ support_of baskets (item ∷ [])
number_is_support baskets item =
    sym (cond_both (has (items_of_counts (item_supports baskets)) item) _ _ (λ known. unwrap_or known 0 ≡ number_of (item_supports baskets) item) (λ here. refl) (λ none. sym (number_absent (item_supports baskets) item none))) ∙ ap (λ s. unwrap_or s 0) (sym (found_is (item_supports baskets) item (supports_rise (item_supports baskets) baskets refl)) ∙ found_supports baskets item)
    ∙ tally_number baskets item

-- the supports over two lists of baskets add up
pub item_supports_add_up : ItemSupportsAddUp
item_supports_add_up a b = sym (added_are (item_supports (a ++ b)) (item_supports a) (item_supports b) (supports_rise (item_supports (a ++ b)) (a ++ b) refl)
    (λ item. are_items (a ++ b) item ∙ items-append a b item ∙ (λ i. sym (are_items a item) i || sym (are_items b item) i) ∙ sym (has-append (items_of_counts (item_supports a)) _ item))
    (λ item. let p = number_is_support (a ++ b) item in let q = number_is_support a item in let r = number_is_support b item in let s = support-append a b (item ∷ []) in omega arith))
  where
    are_items : (baskets : List Weighted) (item : ℕ) → has (items_of_counts (item_supports baskets)) item ≡ has (all_items baskets) item
    are_items baskets item = ap (λ l. has l item) (items_of_map (λ x. support_of baskets (x ∷ [])) (items_of baskets)) ∙ has-rising (all_items baskets) item

-- ---- counts of two lists of baskets

module _ (a b : List (ℕ × ℕ)) (front back baskets : List Weighted) (a_is : a ≡ item_supports front) (b_is : b ≡ item_supports back) (whole : front ++ back ≡ baskets) where
  pub sums_fit : total_of baskets ≤ MOST_WEIGHT → (item : ℕ) → number_of a item + number_of b item < 2 ^ 64
  sums_fit light item = grind (arith, common_steps, number_is_support, support-append, support_falls)

  pub added_is : added_counts a b ≡ item_supports baskets
  added_is = ap (λ l. added_counts l b) a_is ∙ ap (added_counts (item_supports front)) b_is ∙ item_supports_add_up front back ∙ ap item_supports whole
