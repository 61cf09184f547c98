-- A consistent list has each nonempty subset of its sets, with a count that is no lower; the list of the frequent sets is consistent.
use Rattle.std.proofs.Common.{◌≡◌, ◌≢◌, ℕ, ◌<◌, ◌≤◌, true, false, cond, List, [], ◌∷◌, length, get_or, refl, sym, ap, ◌∙◌, subst, inl, inr, arith, zero, suc}
use Rattle.std.proofs.lemmas.Grind.{common_steps}
use Rattle.std.specs.Prelude.{nat_eq}
use Rattle.std.specs.Cmp.Lexicographic.{pointwise, bytes_decides}
use Rattle.std.proofs.lemmas.Bool.{cases_Bool, cases_lt, cond_both, false_from_ne_true}
use Rattle.std.proofs.lemmas.List.Elements.{recursion_from_All}
use Rattle.basket_sets.specs.declared.weighted.Weighted.{Weighted}
use Rattle.basket_sets.specs.declared.counted.Counted.{Counted}
use Rattle.basket_sets.specs.declared.minimum.Minimum.{Minimum}
use Rattle.basket_sets.specs.Frequent.{is_frequent, counted, frequent_of, IsNonemptySet}
use Rattle.basket_sets.specs.Itemset.{has, contains, without}
use Rattle.basket_sets.specs.Order.{report_order_total}
use Rattle.basket_sets.specs.Support.{support_of}
use Rattle.basket_sets.proofs.theory.Frequent.{IsSound, lists_frequent}
use Rattle.basket_sets.proofs.theory.Members.{Member, Member-from_Contains, Contains-from_Member, at_Member, rest_is_sorted}
use Rattle.basket_sets.proofs.theory.Rising.{has-from_Member, has_each, contains_each, same_rising}
use Rattle.basket_sets.proofs.theory.Support.{support_falls, subsets_are_frequent, at_least_one}
use Rattle.basket_rules.specs.Consistency.{count_in, HasSubsets, IsConsistent, FrequentIsConsistent}
use Rattle.basket_rules.specs.Listed.{IsSorted, sets_in, set_at, count_at}
use Rattle.basket_rules.specs.Rules.{IsCountIn}
use Rattle.basket_rules.specs.Search.{IsMissing}
use Rattle.basket_rules.proofs.SubsetLemmas.{contains_without, item_more, without-rises, length-without, Member-into_without}
use Rattle.basket_rules.proofs.SearchLemmas.{none, set_is, count_is, stands_once}

-- ---- counts

-- the set stands in the list, with a count that is no lower
pub record Stands (list : List Counted) (set : List ℕ) (least : ℕ) : Type 0 where
  pub index : ℕ
  pub listed : index < length list
  pub is : set_at list index ≡ set
  pub enough : least ≤ count_at list index

-- a set with a count stands in the list
pub stands_counted : (list : List Counted) (set : List ℕ) → 1 ≤ count_in list set → Stands list set (count_in list set)
stands_counted [] set some = absurd (omega (arith, some))
stands_counted (c ∷ list) set some = cond_both (pointwise nat_eq c.set set) c.count (count_in list set) (λ count. 1 ≤ count → Stands (c ∷ list) set count)
    (λ e more. record { index = 0; listed = omega arith; is = (bytes_decides c.set set).0 e; enough = omega arith })
    (λ e more. let s = stands_counted list set more in record { index = suc s.index; listed = omega (arith, s.listed); is = s.is; enough = s.enough }) some

-- the count of the set at an index is the one there
pub count_at_index : (list : List Counted) (index : ℕ) → IsSorted list → index < length list → count_in list (set_at list index) ≡ count_at list index
count_at_index [] index up below = absurd (omega (arith, below))
count_at_index (c ∷ list) zero up below = ap (λ b. cond b c.count (count_in list c.set)) ((bytes_decides c.set c.set).1 refl)
count_at_index (c ∷ list) (suc index) up below =
    ap (λ b. cond b c.count (count_in list (set_at list index))) apart
    ∙ count_at_index list index (rest_is_sorted report_order_total c.set (sets_in list) up) (omega (arith, below))
  where
    apart : pointwise nat_eq c.set (set_at list index) ≡ false
    apart = false_from_ne_true _ (λ e.
        let same = stands_once (c ∷ list) 0 (suc index) up (omega arith) below ((bytes_decides c.set (set_at list index)).0 e) in absurd (omega (arith, same)))

-- so is that of a set that stands there
pub count_of_standing : (list : List Counted) (set : List ℕ) (least : ℕ) → IsSorted list → (s : Stands list set least) → count_in list set ≡ count_at list s.index
count_of_standing list set least up s = ap (count_in list) (sym s.is) ∙ count_at_index list s.index up s.listed

-- a count that is read where the set stands
pub counted_there : (list : List Counted) (set : List ℕ) (index count : ℕ) → index < length list → set_at list index ≡ set → count ≡ (get_or list index none).count → IsCountIn list set count
counted_there list set index count there is says up = says ∙ sym (count_is list index none there) ∙ sym (count_at_index list index up there) ∙ ap (count_in list) is

-- that of a set which is missing is 0
pub count_of_missing : (list : List Counted) (set : List ℕ) → IsSorted list → IsMissing list set → 0 ≡ count_in list set
count_of_missing list set up missing = elim (cases_lt 0 (count_in list set)) [
  | inl some ↦ absurd (let s = stands_counted list set some in missing up s.index s.listed s.is)
  | inr less ↦ omega (arith, less)
]

-- ---- subsets

-- a set that contains a nonempty one has an item
contains_some : (set part : List ℕ) → part ≢ [] → contains set part ≡ true → 1 ≤ length set
contains_some set [] some h = absurd (some refl)
contains_some [] (x ∷ part) some h = absurd (has_each [] (x ∷ part) h x (inl refl))
contains_some (y ∷ set) (x ∷ part) some h = omega arith

module _ (list : List Counted) (consistent : IsConsistent list) where
  pub set_nonempty : (k : ℕ) → k < length list → IsNonemptySet (set_at list k)
  set_nonempty k below = subst IsNonemptySet (sym (set_is list k none below)) (consistent.nonempty k none below)

  pub some_count : (k : ℕ) → k < length list → 1 ≤ count_at list k
  some_count k below = subst (λ n. 1 ≤ n) (sym (count_is list k none below)) (consistent.counted k none below)

  -- a subset with one item less stands in the list
  less_stands : (k index : ℕ) → k < length list → index < length (set_at list k) → 2 ≤ length (set_at list k) → Stands list (without index (set_at list k)) (count_at list k)
  less_stands k index below within more =
      let count = count_is list k none below in
      let low = subst (λ s. index < length s → 2 ≤ length s → (get_or list k none).count ≤ count_in list (without index s)) (sym (set_is list k none below)) (consistent.subsets k none below index) within more in
      let some = some_count k below in
      let s = stands_counted list (without index (set_at list k)) (omega (arith, count, low, some)) in
      record { index = s.index; listed = s.listed; is = s.is; enough = omega (arith, count, low, s.enough) }

  stands_by_size : (size k : ℕ) (set : List ℕ) → k < length list → IsNonemptySet set → contains (set_at list k) set ≡ true → length (set_at list k) ≤ size → Stands list set (count_at list k)
  stands_by_size zero k set below nonempty h long = absurd (let some = contains_some (set_at list k) set nonempty.1 h in omega (arith, some, long))
  stands_by_size (suc size) k set below nonempty h long = elim (cases_Bool (contains set (set_at list k))) [
    | inl whole ↦ record {
      index = k;
      listed = below;
      is = same_rising (set_at list k) set (set_nonempty k below).0 nonempty.0 (has_each set (set_at list k) whole) (has_each (set_at list k) set h);
      enough = omega arith;
    }
    | inr lack ↦
        (let other = set_at list k in
        let more = item_more set other lack in
        let at = Contains-from_Member more.0 other more.1 in
        let rest = without at.0 other in
        let kept : contains rest set ≡ true = contains_each rest set (λ x m. Member-into_without at.0 other more.0 x (has_each other set h x m) (λ e. absurd (
        let there : has set x ≡ true = has-from_Member set x m in
        let gone : has set x ≡ false = ap (has set) (e ∙ at.2) ∙ more.2 in cc))) in
        let shorter = length-without at.0 other at.1 in
        let some = contains_some rest set nonempty.1 kept in
        let less = less_stands k at.0 below at.1 (omega (arith, shorter, some)) in
        let same = ap length less.is in
        let s = stands_by_size size less.index set less.listed nonempty (subst (λ t. contains t set ≡ true) (sym less.is) kept) (omega (arith, same, shorter, long)) in
        record { index = s.index; listed = s.listed; is = s.is; enough = omega (arith, s.enough, less.enough) })
  ]

  -- each nonempty subset of a set of the list stands in the list
  pub subset_stands : (k : ℕ) (set : List ℕ) → k < length list → IsNonemptySet set → contains (set_at list k) set ≡ true → Stands list set (count_at list k)
  subset_stands k set below nonempty h = stands_by_size (length (set_at list k)) k set below nonempty h (omega arith)

-- ---- frequent sets

module _ (baskets : List Weighted) (minimum : Minimum) where
  -- the list has the frequent sets, and no others
  pub sound_of : (c : Counted) → Member c (frequent_of baskets minimum) → IsSound baskets minimum c
  sound_of c m = at_Member (IsSound baskets minimum) c (frequent_of baskets minimum) (recursion_from_All (IsSound baskets minimum) (frequent_of baskets minimum) (lists_frequent baskets minimum).sound) m

  pub frequent_is_listed : (set : List ℕ) → IsNonemptySet set → is_frequent baskets minimum set ≡ true → Member (counted baskets set) (frequent_of baskets minimum)
  frequent_is_listed set nonempty often = Member-from_Contains (counted baskets set) (frequent_of baskets minimum) ((lists_frequent baskets minimum).complete set nonempty often)

  -- the count of a frequent set in it is the set's support
  pub count_is_support : (set : List ℕ) → IsNonemptySet set → is_frequent baskets minimum set ≡ true → count_in (frequent_of baskets minimum) set ≡ support_of baskets set
  count_is_support set nonempty often =
      let list = frequent_of baskets minimum in
      let lists = lists_frequent baskets minimum in
      let c = lists.complete set nonempty often in
      let here = set_is list c.0 (counted baskets set) c.1 ∙ ap (λ (x : Counted). x.set) c.2 in
      grind (arith, common_steps, count_at_index, count_is)

  -- a subset of one item less is frequent
  has_subsets : (c : Counted) → IsSound baskets minimum c → HasSubsets (frequent_of baskets minimum) c
  has_subsets c sound index within more =
      let less = without index c.set in
      let held = contains_without index c.set in
      let shorter = length-without index c.set within in
      let nonempty : IsNonemptySet less = (without-rises index c.set sound.0.0, λ e. let no = ap length e in absurd (omega (arith, no, shorter, more))) in
      let count = count_is_support less nonempty (subsets_are_frequent baskets minimum c.set less held sound.1) in
      let falls = support_falls baskets c.set less held in
      let own = sound.2 in
      omega (arith, count, falls, own)

pub frequent_is_consistent : FrequentIsConsistent
frequent_is_consistent baskets minimum = let lists = lists_frequent baskets minimum in grind (arith, common_steps, at_least_one, has_subsets)
