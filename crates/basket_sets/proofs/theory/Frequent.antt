-- The list of the frequent sets has exactly the nonempty sets that meet the minimum, and is the only such list in report order. It depends on supports alone.
use Rattle.std.proofs.Common.{length, false, ◌≡◌, ℕ, true, List, [], ◌∷◌, map, refl, sym, ap, ◌∙◌, subst, arith}
use Rattle.std.proofs.lemmas.Grind.{common_steps}
use Rattle.std.specs.declared.cmp.Ordering.{Ordering}
use Rattle.std.specs.declared.cmp.Ordering.TheVariants.{Less, Equal, Greater}
use Rattle.std.specs.Ordering.{nat_cmp, ordering_then, is_lt, eq_by_cmp}
use Rattle.std.specs.Prelude.{nat_eq}
use Rattle.std.specs.Cmp.Lexicographic.{pointwise, bytes_decides, nat_list_eq_equiv}
use Rattle.std.specs.List.{AllByRecursion, IsDistinct, filter, flat_map, list_any}
use Rattle.std.specs.List.Sorted.{IsPermutation, IsSorted, IsStrictlySortedBy}
use Rattle.std.proofs.lemmas.List.{length-map}
use Rattle.std.proofs.lemmas.List.Sorted.{All-permutation, Contains-permutation, IsPermutation-map}
use Rattle.std.proofs.lemmas.Map.Keys.{IsDistinct-from_sorted}
use Rattle.std.proofs.lemmas.Map.Made.{length-from_same_keys}
use Rattle.std.proofs.lemmas.Map.Views.{list_any-from_Contains, Contains-from_any}
use Rattle.std.proofs.lemmas.List.Elements.{All-from_recursion, recursion_from_All}
use Rattle.std.proofs.lemmas.List.Kept.{IsStrictlySortedBy-filter}
use Rattle.basket_sets.specs.declared.weighted.Weighted.{Weighted}
use Rattle.basket_sets.specs.declared.counted.Counted.{Counted}
use Rattle.basket_sets.specs.declared.minimum.Minimum.{Minimum}
use Rattle.basket_sets.specs.Itemset.{IsRising}
use Rattle.basket_sets.specs.Order.{report_order, report_order_total, report_order_ties}
use Rattle.basket_sets.specs.Subsets.{subsets_of}
use Rattle.basket_sets.specs.Database.{merged_of}
use Rattle.basket_sets.specs.Support.{support_of, items_of}
use Rattle.basket_sets.specs.Frequent.{is_frequent, counted, frequent_of, IsNonemptySet, ListsFrequent, ListsOnce, FrequentIsUnique, MergingKeepsFrequent}
use Rattle.basket_sets.proofs.theory.Members.{Member, All-from_Member, at_Member, Member-filter, Member-from_filter, Member-map, Member-from_map, Member-from_Contains, Contains-from_Member, same_members}
use Rattle.basket_sets.proofs.theory.Rising.{rising-rises, same_test}
use Rattle.basket_sets.proofs.theory.Sorting.{strictly_sorted, sorted_images_by}
use Rattle.basket_sets.proofs.theory.Subsets.{subsets_sorted, subset_from_Member, Member-subsets}
use Rattle.basket_sets.proofs.theory.Merging.{merging_keeps_supports}
use Rattle.basket_sets.proofs.theory.Support.{frequent_items}

module _ (baskets : List Weighted) (minimum : Minimum) where
  -- the frequent sets without their supports
  abbrev frequent_sets : List (List ℕ)
  frequent_sets = filter (is_frequent baskets minimum) (subsets_of (items_of baskets))

  -- a nonempty set that meets the minimum, with its support
  abbrev pub IsSound : Counted → Type 0
  IsSound c = IsNonemptySet c.set × (is_frequent baskets minimum c.set ≡ true) × (c.count ≡ support_of baskets c.set)

  items_rise : IsRising (items_of baskets)
  items_rise = rising-rises (flat_map (λ receipt. receipt.basket) baskets)

  frequent_sets_sorted : IsStrictlySortedBy report_order frequent_sets
  frequent_sets_sorted = IsStrictlySortedBy-filter report_order (is_frequent baskets minimum) (subsets_of (items_of baskets)) (subsets_sorted (items_of baskets) items_rise)

  from_frequent : (set : List ℕ) → Member set frequent_sets → IsNonemptySet set × (is_frequent baskets minimum set ≡ true)
  from_frequent set m =
      let k = Member-filter (is_frequent baskets minimum) set (subsets_of (items_of baskets)) m in
      let s = subset_from_Member (items_of baskets) set items_rise k.0 in
      ((s.0, s.1), k.1)

  into_frequent : (set : List ℕ) → IsNonemptySet set → is_frequent baskets minimum set ≡ true → Member set frequent_sets
  into_frequent set n h = grind (arith, common_steps, Member-from_filter, Member-subsets, items_rise, frequent_items)

  sets_of_counted : (sets : List (List ℕ)) → map (λ (c : Counted). c.set) (map (counted baskets) sets) ≡ sets
  sets_of_counted [] = refl
  sets_of_counted (set ∷ sets) = ap (λ rest. set ∷ rest) (sets_of_counted sets)

  -- the list has exactly the frequent sets
  pub lists_frequent : ListsFrequent baskets minimum (frequent_of baskets minimum)
  lists_frequent = record {
    in_order = subst (IsStrictlySortedBy report_order) (sym (sets_of_counted frequent_sets)) frequent_sets_sorted;
    sound = All-from_recursion _ (frequent_of baskets minimum) (All-from_Member _ (frequent_of baskets minimum) sound);
    complete = λ set n h. Contains-from_Member (counted baskets set) (frequent_of baskets minimum) (Member-map (counted baskets) set frequent_sets (into_frequent set n h));
  }
    where
      sound : (c : Counted) → Member c (map (counted baskets) frequent_sets) → IsSound c
      sound c m = grind (arith, common_steps, Member-from_map, from_frequent)

  recounted : (list : List Counted) → AllByRecursion (λ c. c.count ≡ support_of baskets c.set) list → list ≡ map (counted baskets) (map (λ c. c.set) list)
  recounted [] h = refl
  recounted (c ∷ list) h = let rest = recounted list h.1 in λ i. record { set = c.set; count = h.0 i } ∷ rest i

  unique : (list : List Counted) → ListsFrequent baskets minimum list → list ≡ frequent_of baskets minimum
  unique list l = recounted list (counts list (recursion_from_All IsSound list l.sound)) ∙ ap (map (counted baskets)) same
    where
      counts : (cs : List Counted) → AllByRecursion IsSound cs → AllByRecursion (λ c. c.count ≡ support_of baskets c.set) cs
      counts cs all = All-from_Member _ cs (λ c m. (at_Member IsSound c cs all m).2)

      same : map (λ (c : Counted). c.set) list ≡ frequent_sets
      same = same_members report_order_total (map (λ (c : Counted). c.set) list) frequent_sets l.in_order frequent_sets_sorted
          (λ z m. let p = Member-from_map (λ (c : Counted). c.set) z list m in
          let s = at_Member IsSound p.0 list (recursion_from_All IsSound list l.sound) p.1 in
          subst (λ w. Member w frequent_sets) p.2 (into_frequent p.0.set s.0 s.1))
          (λ z m. let f = from_frequent z m in
          Member-map (λ (c : Counted). c.set) (counted baskets z) list (Member-from_Contains (counted baskets z) list (l.complete z f.0 f.1)))

-- no other list does
pub frequent_is_unique : FrequentIsUnique
frequent_is_unique baskets minimum list = (
  unique baskets minimum list,
  λ e. subst (ListsFrequent baskets minimum) (sym e) (lists_frequent baskets minimum),
)

-- ---- lists in any order

-- the order in which counted sets are sorted
abbrev pub counted_order : Counted → Counted → Ordering
counted_order a b = ordering_then (report_order a.set b.set) (nat_cmp a.count b.count)

not_before : (r s : Ordering) → is_lt (ordering_then r s) ≡ false → is_lt r ≡ false
not_before Less s e = e
not_before Equal s e = refl
not_before Greater s e = refl

-- counted sets in order have their sets in order
pub sets_sorted : (list : List Counted) → IsSorted counted_order list → IsSorted report_order (map (λ c. c.set) list)
sets_sorted = sorted_images_by counted_order report_order (λ c. c.set) (λ a b. not_before (report_order a.set b.set) (nat_cmp a.count b.count))

-- sets are told apart by their order as by their items
same_tests : pointwise nat_eq ≡ eq_by_cmp report_order
same_tests = λ i a b. report_order_ties a b i

-- a list that has each frequent set once is, sorted, the list of the frequent sets
pub sorted_is_frequent : (baskets : List Weighted) (minimum : Minimum) (list sorted : List Counted) → ListsOnce baskets minimum list → IsPermutation list sorted → IsSorted report_order (map (λ c. c.set) sorted)
    → sorted ≡ frequent_of baskets minimum
sorted_is_frequent baskets minimum list sorted lists moved up = (frequent_is_unique baskets minimum sorted).0 (record {
  in_order = strictly_sorted report_order_total (map (λ c. c.set) list) (map (λ c. c.set) sorted) (subst (λ p. IsDistinct p (map (λ (c : Counted). c.set) list)) same_tests lists.distinct)
      (IsPermutation-map (λ (c : Counted). c.set) list sorted moved) up;
  sound = All-permutation (IsSound baskets minimum) list sorted moved lists.sound;
  complete = λ set n h. Contains-permutation list sorted (counted baskets set) moved (lists.complete set n h);
})

-- the list of the frequent sets has each once
pub frequent_once : (baskets : List Weighted) (minimum : Minimum) → ListsOnce baskets minimum (frequent_of baskets minimum)
frequent_once baskets minimum = let lists = lists_frequent baskets minimum in grind (arith, common_steps, same_tests, IsDistinct-from_sorted)

-- it is as long as that list
pub once_is_as_long : (baskets : List Weighted) (minimum : Minimum) (list : List Counted) → ListsOnce baskets minimum list → length list ≡ length (frequent_of baskets minimum)
once_is_as_long baskets minimum list lists =
    let all = frequent_once baskets minimum in
    sym (length-map list (λ (c : Counted). c.set))
    ∙ length-from_same_keys nat_list_eq_equiv (map (λ (c : Counted). c.set) list) (map (λ (c : Counted). c.set) (frequent_of baskets minimum)) lists.distinct all.distinct
    (λ set. same_test _ _ (member_of list (frequent_of baskets minimum) lists all set) (member_of (frequent_of baskets minimum) list all lists set))
    ∙ length-map (frequent_of baskets minimum) (λ (c : Counted). c.set)
  where
    member_of : (one other : List Counted) → ListsOnce baskets minimum one → ListsOnce baskets minimum other → (set : List ℕ)
        → list_any (pointwise nat_eq set) (map (λ (c : Counted). c.set) one) ≡ true → list_any (pointwise nat_eq set) (map (λ (c : Counted). c.set) other) ≡ true
    member_of one other a b set h =
        let m = Member-from_Contains set (map (λ (c : Counted). c.set) one) (Contains-from_any (λ x y e. (bytes_decides x y).0 e) set (map (λ (c : Counted). c.set) one) h) in
        let c = Member-from_map (λ (c : Counted). c.set) set one m in
        let s = at_Member (IsSound baskets minimum) c.0 one (recursion_from_All (IsSound baskets minimum) one a.sound) c.1 in
        let n = Member-map (λ (c : Counted). c.set) (counted baskets c.0.set) other (Member-from_Contains (counted baskets c.0.set) other (b.complete c.0.set s.0 s.1)) in
        list_any-from_Contains nat_list_eq_equiv set (map (λ (c : Counted). c.set) other)
        (Contains-from_Member set (map (λ (c : Counted). c.set) other) (subst (λ z. Member z (map (λ (c : Counted). c.set) other)) c.2 n))

-- ---- the same supports

-- baskets over which each set has the same support have the same frequent sets
pub same_supports : (one other : List Weighted) → ((set : List ℕ) → support_of one set ≡ support_of other set) → (minimum : Minimum) → frequent_of one minimum ≡ frequent_of other minimum
same_supports one other supports minimum =
    let list = frequent_of one minimum in
    let lists = (frequent_is_unique one minimum list).1 refl in
    let same : (set : List ℕ) → is_frequent one minimum set ≡ is_frequent other minimum set = grind (arith, common_steps) in
    let all : ListsFrequent other minimum list = grind (arith, common_steps) in
    (frequent_is_unique other minimum list).0 all

-- merging equal baskets keeps the frequent sets
pub merging_keeps_frequent : MergingKeepsFrequent
merging_keeps_frequent baskets minimum = same_supports (merged_of baskets) baskets (merging_keeps_supports baskets) minimum
