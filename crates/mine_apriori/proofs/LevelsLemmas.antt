-- The frequent sets by levels: each level is what is frequent among the candidates of the one before.
use Rattle.std.proofs.Common.{◌≡◌, ◌≢◌, ℕ, ◌+◌, ◌<◌, ◌≤◌, Bool, true, List, [], ◌∷◌, ◌++◌, ◌&&◌, length, map, refl, sym, ap, ◌∙◌, subst, inl, arith, zero, suc}
use Rattle.std.proofs.lemmas.Grind.{common_steps}
use Rattle.std.specs.List.{All, filter, flat_map, range_with_len}
use Rattle.std.proofs.Math.Bool.{and_self}
use Rattle.std.proofs.lemmas.List.{append-nil, length-map, map-append, map-id}
use Rattle.std.proofs.lemmas.List.Elements.{filter_agree}
use Rattle.std.proofs.lemmas.List.FromFn.{length-range_with_len}
use Rattle.std.proofs.lemmas.List.Kept.{IsStrictlySortedBy-filter}
use Rattle.basket_ranks.specs.Codes.{Coding, IsCoding, baskets_of, frequent_of_coding, decoded_set}
use Rattle.basket_sets.specs.Counts.{item_supports}
use Rattle.basket_sets.specs.Frequent.{is_frequent, counted, frequent_of, ListsOnce}
use Rattle.basket_sets.specs.Itemset.{IsRising}
use Rattle.basket_sets.specs.Order.{report_order, report_order_total, IsInReportOrder}
use Rattle.basket_sets.specs.Subsets.{subsets_of, subsets_of_size, subsets_up_to}
use Rattle.basket_sets.specs.Support.{support_of, items_of, all_items}
use Rattle.basket_sets.specs.declared.counted.Counted.{Counted}
use Rattle.basket_ranks.proofs.theory.Decoding.{decoding_keeps_frequent, ranks_below, as_many}
use Rattle.basket_sets.proofs.theory.Frequent.{frequent_once}
use Rattle.std.proofs.lemmas.Simd.{map-map}
use Rattle.basket_sets.proofs.theory.Items.{one_item}
use Rattle.basket_sets.proofs.theory.Ranges.{Member-into_range, range_rises}
use Rattle.basket_sets.proofs.theory.Members.{Member, Member-filter, Member-flat_map, Member-from_filter, Member-from_Contains, Contains-from_Member, same_members}
use Rattle.basket_sets.proofs.theory.Rising.{has-from_Member, rising-rises, Member-rising, length-le-contains}
use Rattle.basket_sets.proofs.theory.Subsets.{IsSubset, IsSubset-from_Member, Member-from_IsSubset}
use Rattle.basket_sets.proofs.theory.Support.{frequent_items, subsets_are_frequent}
use Rattle.mine_apriori.specs.Candidates.{candidates_of}
use Rattle.mine_apriori.specs.Levels.{level_of, levels_up_to, asked_of, decoded_sets, AreFound, AreTooMany}
use Rattle.mine_supports.specs.Extensions.{AreGrouped, Group, kept, sets_of}
use Rattle.mine_supports.specs.Sizes.{AreOfSize}
use Rattle.mine_supports.proofs.theory.Extensions.{kept_sets}
use Rattle.mine_supports.proofs.theory.Grouped.{of_each}
use Rattle.mine_apriori.proofs.LawLemmas.{subset_of_size, candidates_are_exact, candidates_are_in_report_order, of_size_in_order}
use Rattle.mine_apriori.proofs.PruneLemmas.{filter_both, none_larger}
use Rattle.mine_apriori.proofs.JoinedLemmas.{kept_grouped}

-- the subsets that pass a test, up to a size
module _ (p : List ℕ → Bool) (items : List ℕ) where
  abbrev up_to : ℕ → List (List ℕ)
  up_to size = filter p (subsets_up_to size items)

  pub one_more : (size : ℕ) → up_to (size + 1) ≡ up_to size ++ filter p (subsets_of_size (size + 1) items)
  one_more size = grind (arith, common_steps)

  same_later : (size more : ℕ) → ((k : ℕ) → filter p (subsets_of_size (size + 1 + k) items) ≡ []) → up_to (size + more) ≡ up_to size
  same_later size zero none = ap up_to (let e : size + 0 ≡ size = omega arith in e)
  same_later size (suc more) none =
      ap up_to (let e : size + suc more ≡ size + more + 1 = omega arith in e) ∙ one_more (size + more)
      ∙ ap (λ l. up_to (size + more) ++ l) (ap (λ n. filter p (subsets_of_size n items)) (let e : size + more + 1 ≡ size + 1 + more = omega arith in e) ∙ none more)
      ∙ append-nil (up_to (size + more)) ∙ same_later size more none

  -- the subsets up to the number of items are all there are
  beyond_all : (size : ℕ) → up_to (size + length items) ≡ filter p (subsets_of items)
  beyond_all size =
      ap up_to (let e : size + length items ≡ length items + size = omega arith in e)
      ∙ same_later (length items) size (λ k. ap (filter p) (none_larger (length items + 1 + k) items (omega arith)))

  pub settled : (size : ℕ) → ((k : ℕ) → filter p (subsets_of_size (size + 1 + k) items) ≡ []) → up_to size ≡ filter p (subsets_of items)
  settled size none = sym (same_later size (length items) none) ∙ beyond_all size

  -- those up to a size are no more than all
  grows : (size more : ℕ) → length (up_to size) ≤ length (up_to (size + more))
  grows size zero = grind (arith, common_steps)
  grows size (suc more) = grind (arith, common_steps, one_more (size + more), grows size more)

  pub at_most_all : (size : ℕ) → length (up_to size) ≤ length (filter p (subsets_of items))
  at_most_all size = let most = grows size (length items) in omega (arith, most, ap length (beyond_all size))

some_member : (sets : List (List ℕ)) → sets ≢ [] → (set : List ℕ) × Member set sets
some_member [] some = absurd (some refl)
some_member (set ∷ sets) some = (set, inl refl)

module _ (coding : Coding) where
  abbrev items : List ℕ
  items = items_of coding.baskets

  abbrev passes : List ℕ → Bool
  passes set = is_frequent coding.baskets coding.minimum set

  pub items_rise : IsRising items
  items_rise = rising-rises (all_items coding.baskets)

  -- ---- the sets of a level

  pub from_level : (size : ℕ) (set : List ℕ) → Member set (level_of coding size) → IsSubset size items set × (passes set ≡ true)
  from_level size set m = let k = Member-filter passes set (subsets_of_size size items) m in (IsSubset-from_Member size items set items_rise k.0, k.1)

  pub into_level : (size : ℕ) (set : List ℕ) → IsRising set → length set ≡ size → passes set ≡ true → Member set (level_of coding size)
  into_level size set up sized h = grind (arith, common_steps, Member-from_filter, Member-from_IsSubset, items_rise, frequent_items)

  pub level_sized : (size : ℕ) → AreOfSize size (level_of coding size)
  level_sized size = of_each (λ set. length set ≡ size) (level_of coding size) (λ set m. (from_level size set m).0.sized)

  pub level_in_order : (size : ℕ) → IsInReportOrder (level_of coding size)
  level_in_order size = IsStrictlySortedBy-filter report_order passes (subsets_of_size size items) (of_size_in_order size items items_rise)

  -- ---- the next level

  pub next_level : (size : ℕ) → 1 ≤ size → filter passes (asked_of coding size) ≡ level_of coding (size + 1)
  next_level size some = same_members report_order_total (filter passes (asked_of coding size)) (level_of coding (size + 1))
      (IsStrictlySortedBy-filter report_order passes (asked_of coding size) (candidates_are_in_report_order (level_of coding size)))
      (level_in_order (size + 1))
      (λ set m. let k = Member-filter passes set (asked_of coding size) m in
      let c = (candidates_are_exact size (level_of coding size) set some (level_sized size)).0 (Contains-from_Member set (asked_of coding size) k.0) in
      into_level (size + 1) set c.rises c.sized k.1)
      (λ set m. let s = from_level (size + 1) set m in
      Member-from_filter passes set (asked_of coding size)
      (Member-from_Contains set (asked_of coding size) ((candidates_are_exact size (level_of coding size) set some (level_sized size)).1 (record {
        rises = s.0.rises;
        sized = s.0.sized;
        subsets = λ subset up sized within.
            Contains-from_Member subset (level_of coding size) (into_level size subset up sized (subsets_are_frequent coding.baskets coding.minimum set subset within s.1));
      }))) s.1)

  -- ---- the last level

  empty_after : (size : ℕ) → 1 ≤ size → level_of coding size ≡ [] → level_of coding (size + 1) ≡ []
  empty_after size some none = sym (next_level size some) ∙ ap (λ l. filter passes (candidates_of l)) none

  pub empty_later : (size more : ℕ) → 1 ≤ size → level_of coding size ≡ [] → level_of coding (size + more) ≡ []
  empty_later size zero some none = grind (arith, common_steps)
  empty_later size (suc more) some none = grind (arith, common_steps, empty_after (size + more) (omega arith) (empty_later size more some none), empty_later size more some none)

  pub found_long : (size : ℕ) (found : List Counted) → AreFound coding size found → length found ≡ length (levels_up_to coding size)
  found_long size found are = ap length are ∙ length-map (levels_up_to coding size) (λ set. decoded_set coding.items (counted coding.baskets set))

  all_long : IsCoding coding → length (frequent_of_coding coding) ≡ length (levels_up_to coding (length items))
  all_long is = as_many coding is ∙ length-map (levels_up_to coding (length items)) (counted coding.baskets)

  pub too_many : IsCoding coding → (size limit : ℕ) (found : List Counted) → AreFound coding size found → limit < length found → AreTooMany coding limit
  too_many is size limit found are more = let most = at_most_all passes items size in omega (arith, found_long size found are, all_long is, most)

  module _ (is : IsCoding coding) (size : ℕ) (some : 1 ≤ size) (none : asked_of coding size ≡ []) (found : List Counted) (are : AreFound coding size found) where
    -- nothing is found later
    are_all : AreFound coding (length items) found
    are_all = grind (arith, common_steps, next_level, settled, empty_later)

    -- what was found, as the one class of all classes, is each frequent set once
    pub one_class_once : (classes : List (List Counted)) → classes ≡ found ∷ [] → ListsOnce (baskets_of coding) coding.minimum (flat_map (λ class. class) classes)
    one_class_once classes one =
        subst (ListsOnce (baskets_of coding) coding.minimum)
        (map-map (decoded_set coding.items) (counted coding.baskets) (levels_up_to coding (length items)) ∙ sym (ap (flat_map (λ (class : List Counted). class)) one ∙ append-nil found ∙ are_all))
        (decoding_keeps_frequent coding (frequent_of coding.baskets coding.minimum) is (frequent_once coding.baskets coding.minimum))

    pub found_as_many : length (frequent_of_coding coding) ≡ length found
    found_as_many = all_long is ∙ sym (found_long (length items) found are_all)

  -- an item of a candidate is in one of the sets that it is made of
  in_level : (size : ℕ) (set : List ℕ) → Member set (asked_of coding size) → (item : ℕ) → Member item set → (subset : List ℕ) × Member subset (level_of coding size) × Member item subset
  in_level size set m item n =
      let s = subset_of_size size (level_of coding size) set (level_sized size) m in
      Member-flat_map (λ set. set) item (level_of coding size) (Member-rising (flat_map (λ set. set) (level_of coding size)) item (s.0.within item n))

  pub candidate_items : (size : ℕ) (set : List ℕ) → Member set (asked_of coding size) → (item : ℕ) → Member item set → Member item items
  candidate_items size set m item n = let f = in_level size set m item n in (from_level size f.0 f.1).0.within item f.2

  -- a level that asks is not yet that of all items
  pub asks_more : (size : ℕ) → asked_of coding size ≢ [] → size + 1 ≤ length items
  asks_more size asks =
      let set = some_member (asked_of coding size) asks in
      let s = subset_of_size size (level_of coding size) set.0 (level_sized size) set.1 in
      let le = length-le-contains set.0 items s.0.rises items_rise (candidate_items size set.0 set.1) in
      omega (arith, le, s.0.sized)

  -- nor that of all ranks
  pub asked_few : IsCoding coding → (size : ℕ) → asked_of coding size ≢ [] → size + 1 ≤ length coding.items
  asked_few is size asks =
      let set = some_member (asked_of coding size) asks in
      let s = subset_of_size size (level_of coding size) set.0 (level_sized size) set.1 in
      let count = length coding.items in
      let le = length-le-contains set.0 (range_with_len 0 count) s.0.rises (range_rises 0 count) (λ item n.
      let f = in_level size set.0 set.1 item n in
      let below = ranks_below coding is f.0 (from_level size f.0 f.1).1 item (has-from_Member f.0 item f.2) in
      Member-into_range 0 count item (omega arith) (omega (arith, below))) in
      omega (arith, le, s.0.sized, length-range_with_len 0 count)

  -- the sets of a level rise, and so do those that are asked for
  pub level_rises : (size : ℕ) → All IsRising (level_of coding size)
  level_rises size = of_each IsRising (level_of coding size) (λ set m. (from_level size set m).0.rises)

  pub asked_rise : (size : ℕ) → All IsRising (asked_of coding size)
  asked_rise size = of_each IsRising (asked_of coding size) (λ set m. (subset_of_size size (level_of coding size) set (level_sized size) m).0.rises)

  -- ---- the first level

  -- one rank each, with its support
  pub first_asked : map (support_of coding.baskets) (map (λ rank. rank ∷ []) items) ≡ map (λ entry. entry.1) (item_supports coding.baskets)
  first_asked = grind (arith, common_steps, map-map)

  pub first_ranks : map (λ entry. entry.0) (item_supports coding.baskets) ≡ items
  first_ranks = map-map (λ (entry : ℕ × ℕ). entry.0) (λ x. (x, support_of coding.baskets (x ∷ []))) items ∙ map-id items

  pub first_level : filter passes (map (λ rank. rank ∷ []) items) ≡ level_of coding 1
  first_level = ap (filter passes) (sym (one_item items))

  -- the frequent ones of a level are the level
  pub level_again : (size : ℕ) → filter passes (level_of coding size) ≡ level_of coding size
  level_again size = filter_both passes passes (subsets_of_size size items) ∙ filter_agree (λ set. passes set && passes set) passes (λ set. and_self (passes set)) (subsets_of_size size items)

-- one level more is found
pub record AreNext (coding : Coding) (size : ℕ) (found : List Counted) (level : List Group) : Type 0 where
  pub found_all : AreFound coding (size + 1) found
  pub level_all : sets_of level ≡ level_of coding (size + 1)
  pub grouped : AreGrouped level

pub are_next : (coding : Coding) (size : ℕ) (sets level : List Group) (old new : List Counted) → AreFound coding size old → AreGrouped sets
    → filter (is_frequent coding.baskets coding.minimum) (sets_of sets) ≡ level_of coding (size + 1) → level ≡ kept (is_frequent coding.baskets coding.minimum) sets
    → new ≡ old ++ decoded_sets coding (filter (is_frequent coding.baskets coding.minimum) (sets_of sets)) → AreNext coding size new level
are_next coding size sets level old new found grouped next is added = grind (arith, common_steps, map-append, one_more, kept_sets, kept_grouped)
