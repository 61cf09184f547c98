-- Supersets with one item more decide which frequent sets are closed and which are maximal, and so does the list of the frequent sets.
use Rattle.std.proofs.Common.{◌≡◌, ℕ, Bool, true, false, not, eqb, ◌&&◌, List, filter, refl, sym, ap, ◌∙◌, subst, inl, arith}
use Rattle.std.proofs.lemmas.Grind.{common_steps}
use Rattle.std.specs.List.{list_all}
use Rattle.std.proofs.lemmas.Bool.{and_parts, and_from, eqb-true, eq-eqb}
use Rattle.basket_core.specs.Listing.{Listing}
use Rattle.basket_sets.specs.declared.weighted.Weighted.{Weighted}
use Rattle.basket_sets.specs.declared.counted.Counted.{Counted}
use Rattle.basket_sets.specs.declared.minimum.Minimum.{Minimum}
use Rattle.basket_sets.specs.Frequent.{is_frequent, counted, frequent_of, IsNonemptySet}
use Rattle.basket_sets.specs.Itemset.{IsRising, has, contains, with_item}
use Rattle.basket_sets.specs.Minimum.{meets}
use Rattle.basket_sets.specs.Subsets.{subsets_of}
use Rattle.basket_sets.specs.Support.{support_of, total_of, items_of, all_items}
use Rattle.basket_sets.proofs.theory.Members.{Member, Member-filter, Member-from_filter, Member-map, Member-from_map}
use Rattle.basket_sets.proofs.theory.Ranges.{filter_members}
use Rattle.basket_sets.proofs.theory.Rising.{rising-rises, with_item-rises, Member-with_item, Member-into_with_item}
use Rattle.basket_sets.proofs.theory.Subsets.{subset_from_Member, Member-subsets}
use Rattle.basket_sets.proofs.theory.Support.{support_falls, subsets_are_frequent, frequent_items}
use Rattle.basket_rules.specs.Consistency.{IsConsistent}
use Rattle.basket_rules.specs.Condensed.{is_proper_superset, supersets_of, none_supported_alike, none_frequent, is_closed, is_maximal, is_closed_in, is_maximal_in, closed_in, maximal_in, extensions_of, OneItemMoreDecides, ListDecidesClosed, ListDecidesMaximal, AreClosed, AreMaximal}
use Rattle.basket_rules.proofs.SubsetLemmas.{none_alike, not_true, true_not, item_more, contains_less, contains_with_item, with_item_lacks}
use Rattle.basket_rules.proofs.theory.Consistency.{frequent_is_consistent, sound_of, frequent_is_listed}

-- a set with an item more is a nonempty set
pub with_item_nonempty : (item : ℕ) (set : List ℕ) → IsRising set → IsNonemptySet (with_item item set)
with_item_nonempty item set up = (with_item-rises item set up, λ e. subst (Member item) e (Member-into_with_item item set item (inl refl)))

-- ---- supersets with one item more

module _ (baskets : List Weighted) (minimum : Minimum) where
  items_rise : IsRising (items_of baskets)
  items_rise = rising-rises (all_items baskets)

  -- a frequent set of items that properly contains another is one of its supersets
  is_superset : (set other : List ℕ) → IsNonemptySet other → ((item : ℕ) → Member item other → Member item (items_of baskets))
      → contains other set ≡ true → contains set other ≡ false → Member other (supersets_of baskets set)
  is_superset set other nonempty within h lack = grind (arith, common_steps, Member-from_filter, Member-subsets, items_rise, and_from, not_true)

  -- a superset has an item of the database that the set lacks
  pub record HasMore (set other : List ℕ) : Type 0 where
    pub item : ℕ
    pub of_database : Member item (items_of baskets)
    pub lacks : has set item ≡ false
    pub within : contains other (with_item item set) ≡ true

  has_more : (set other : List ℕ) → Member other (supersets_of baskets set) → HasMore set other
  has_more set other m = grind (arith, common_steps, Member-filter, and_parts, item_more, true_not, subset_from_Member, items_rise, contains_with_item)

  -- an extension by an item of the database is a proper superset
  extension_is_superset : (set other : List ℕ) → IsRising set → ((item : ℕ) → Member item set → Member item (items_of baskets))
      → Member other (extensions_of baskets set) → Member other (supersets_of baskets set)
  extension_is_superset set other up within m =
      let p = Member-from_map (λ item. with_item item set) other (filter (λ item. not (has set item)) (items_of baskets)) m in
      let q = Member-filter (λ item. not (has set item)) p.0 (items_of baskets) p.1 in
      grind (arith, common_steps, Member, is_superset, with_item_nonempty, Member-with_item, contains_less, with_item_lacks, true_not)

  into_extensions : (set : List ℕ) (item : ℕ) → Member item (items_of baskets) → has set item ≡ false → Member (with_item item set) (extensions_of baskets set)
  into_extensions set item m lack = grind (arith, common_steps, Member-map, Member-from_filter, not_true)

  -- between a set and a superset of the same support all sets have that support
  support_between : (set other : List ℕ) (more : HasMore set other) → eqb (support_of baskets other) (support_of baskets set) ≡ true
      → support_of baskets (with_item more.item set) ≡ support_of baskets set
  support_between set other more e =
      let same = eqb-true (support_of baskets other) (support_of baskets set) e in
      let low = support_falls baskets (with_item more.item set) set (contains_less more.item set) in
      let high = support_falls baskets other (with_item more.item set) more.within in
      omega arith

  -- what a test says of each superset, it says of each set with one item more, and the other way round where it is kept in between
  by_extensions : (test : List ℕ → Bool) (set : List ℕ) → IsRising set → ((item : ℕ) → Member item set → Member item (items_of baskets))
      → ((other : List ℕ) (more : HasMore set other) → test other ≡ true → test (with_item more.item set) ≡ true)
      → list_all (λ o. not (test o)) (supersets_of baskets set) ≡ list_all (λ o. not (test o)) (extensions_of baskets set)
  by_extensions test set up within kept = none_alike test test (supersets_of baskets set) (extensions_of baskets set)
      (λ o m e. let more = has_more set o m in (with_item more.item set, into_extensions set more.item more.of_database more.lacks, kept o more e))
      (λ o m e. (o, extension_is_superset set o up within m, e))

  closed_by_extensions : (set : List ℕ) → IsRising set → ((item : ℕ) → Member item set → Member item (items_of baskets))
      → is_closed baskets set ≡ none_supported_alike baskets set (extensions_of baskets set)
  closed_by_extensions set up within = by_extensions (λ o. eqb (support_of baskets o) (support_of baskets set)) set up within
      (λ other more e. eq-eqb (support_of baskets (with_item more.item set)) (support_of baskets set) (support_between set other more e))

  maximal_by_extensions : (set : List ℕ) → IsRising set → ((item : ℕ) → Member item set → Member item (items_of baskets))
      → is_maximal baskets minimum set ≡ none_frequent baskets minimum (extensions_of baskets set)
  maximal_by_extensions set up within = by_extensions (is_frequent baskets minimum) set up within
      (λ other more e. subsets_are_frequent baskets minimum other (with_item more.item set) more.within e)

pub one_item_more_decides : OneItemMoreDecides
one_item_more_decides baskets minimum set nonempty often =
    let within = frequent_items baskets minimum set often in
    (closed_by_extensions baskets minimum set nonempty.0 within, maximal_by_extensions baskets minimum set nonempty.0 within)

-- ---- the list decides

module _ (baskets : List Weighted) (minimum : Minimum) (c : Counted) (here : Member c (frequent_of baskets minimum)) where
  -- a superset in the list is one of the database
  listed_superset : (other : Counted) → Member other (frequent_of baskets minimum) → is_proper_superset other.set c.set ≡ true → Member other.set (supersets_of baskets c.set)
  listed_superset other m h =
      let sound = sound_of baskets minimum other m in
      let tests = and_parts (contains other.set c.set) (not (contains c.set other.set)) h in
      is_superset baskets minimum c.set other.set sound.0 (frequent_items baskets minimum other.set sound.1) tests.0 (true_not (contains c.set other.set) tests.1)

  -- a frequent superset of the database is in the list
  superset_listed : (other : List ℕ) → Member other (supersets_of baskets c.set) → is_frequent baskets minimum other ≡ true
      → Member (counted baskets other) (frequent_of baskets minimum) × (is_proper_superset other c.set ≡ true)
  superset_listed other m often =
      let p = Member-filter (λ o. is_proper_superset o c.set) other (subsets_of (items_of baskets)) m in
      let s = subset_from_Member (items_of baskets) other (items_rise baskets minimum) p.0 in
      (frequent_is_listed baskets minimum other (s.0, s.1) often, p.1)

  closed_by_list : is_closed baskets c.set ≡ is_closed_in (frequent_of baskets minimum) c
  closed_by_list = none_alike (λ (t : List ℕ). eqb (support_of baskets t) (support_of baskets c.set)) (λ (o : Counted). is_proper_superset o.set c.set && eqb o.count c.count) (supersets_of baskets c.set)
      (frequent_of baskets minimum)
      (λ t m e. let same = eqb-true (support_of baskets t) (support_of baskets c.set) e in
      let p = superset_listed t m (ap (λ n. meets minimum n (total_of baskets)) same ∙ (sound_of baskets minimum c here).1) in
      (counted baskets t, p.0, and_from (is_proper_superset t c.set) (eqb (support_of baskets t) c.count) p.1 (eq-eqb (support_of baskets t) c.count (same ∙ sym own))))
      (λ o m e. let tests = and_parts (is_proper_superset o.set c.set) (eqb o.count c.count) e in
      (o.set, listed_superset o m tests.0, eq-eqb (support_of baskets o.set) (support_of baskets c.set) (sym (sound_of baskets minimum o m).2 ∙ eqb-true o.count c.count tests.1 ∙ own)))
    where
      own : c.count ≡ support_of baskets c.set
      own = (sound_of baskets minimum c here).2

  maximal_by_list : is_maximal baskets minimum c.set ≡ is_maximal_in (frequent_of baskets minimum) c
  maximal_by_list = none_alike (is_frequent baskets minimum) (λ (o : Counted). is_proper_superset o.set c.set) (supersets_of baskets c.set) (frequent_of baskets minimum)
      (λ t m e. let p = superset_listed t m e in (counted baskets t, p.0, p.1))
      (λ o m e. (o.set, listed_superset o m e, (sound_of baskets minimum o m).1))

pub list_decides_closed : ListDecidesClosed
list_decides_closed baskets minimum = filter_members (λ c. is_closed baskets c.set) (is_closed_in (frequent_of baskets minimum)) (frequent_of baskets minimum) (closed_by_list baskets minimum)

pub list_decides_maximal : ListDecidesMaximal
list_decides_maximal baskets minimum = grind (arith, common_steps, filter_members, maximal_by_list)

-- so the closed and the maximal ones of a list are those of baskets whose list it is
pub closed_of_baskets : (listing : Listing) (kept : List Counted) → (IsConsistent listing.sets → kept ≡ closed_in listing.sets) → AreClosed listing kept
closed_of_baskets listing kept so baskets minimum is =
    so (subst IsConsistent (sym is.sets) (frequent_is_consistent baskets minimum)) ∙ ap closed_in is.sets ∙ sym (list_decides_closed baskets minimum)

pub maximal_of_baskets : (listing : Listing) (kept : List Counted) → (IsConsistent listing.sets → kept ≡ maximal_in listing.sets) → AreMaximal listing kept
maximal_of_baskets listing kept so baskets minimum is =
    so (subst IsConsistent (sym is.sets) (frequent_is_consistent baskets minimum)) ∙ ap maximal_in is.sets ∙ sym (list_decides_maximal baskets minimum)
