-- The candidates of a level, prefix by prefix.
use Rattle.std.proofs.Common.{◌≡◌, ℕ, zero, suc, ◌<◌, ◌&&◌, Bool, true, List, [], ◌∷◌, ◌++◌, length, filter, flat_map, refl, sym, ap, ◌∙◌, subst, inl, inr, arith}
use Rattle.std.proofs.lemmas.Grind.{common_steps}
use Rattle.std.specs.Cmp.Lexicographic.{slice_cmp}
use Rattle.std.specs.List.{All}
use Rattle.std.specs.List.Sorted.{IsStrictlySortedBy}
use Rattle.std.specs.Ordering.{nat_cmp}
use Rattle.std.proofs.lemmas.Bool.{and_parts, cases_lt}
use Rattle.std.proofs.lemmas.List.{map-append}
use Rattle.std.proofs.lemmas.Simd.{map-map}
use Rattle.basket_sets.specs.Itemset.{IsRising, without}
use Rattle.basket_sets.specs.Order.{report_order, report_order_total, IsInReportOrder}
use Rattle.basket_sets.specs.Subsets.{subsets_of_size}
use Rattle.basket_sets.proofs.theory.Members.{Member, Member-filter, Member-flat_map, Member-from_filter, Member-into_flat_map, Member-map, same_members, sorted_along}
use Rattle.basket_sets.proofs.theory.Ranges.{filter_rises}
use Rattle.basket_sets.proofs.theory.Rising.{first_below, rest_rises, same_test}
use Rattle.basket_sets.proofs.theory.Subsets.{same_order}
use Rattle.basket_sets.proofs.theory.Tests.{each_of}
use Rattle.mine_apriori.specs.Candidates.{is_one_of, has_subsets, candidates_of}
use Rattle.mine_apriori.specs.Join.{has_parts, joined_group, joined_groups}
use Rattle.mine_supports.specs.Extensions.{AreGrouped, Group, extend, kept, sets_of, prefixes_of, has_items}
use Rattle.mine_supports.specs.Sizes.{AreOfSize}
use Rattle.mine_supports.proofs.theory.Extensions.{passing, sets_filled}
use Rattle.mine_supports.proofs.theory.Grouped.{at_each, of_each, regrouped, size_at}
use Rattle.mine_apriori.proofs.GroupLemmas.{filter_grouped, from_sets, into_sets, items_rise, last_same, same_group, sets_in_order}
use Rattle.mine_apriori.proofs.JoinLemmas.{ends_of, length_after, rises_after, rising_ends, without_first, without_second}
use Rattle.mine_apriori.proofs.LawLemmas.{candidates_are_in_report_order, into_candidates, subset_of_size, without_is_there}
use Rattle.mine_apriori.proofs.PruneLemmas.{Member-without, has_all}

-- ---- the subsets without one of the first items

parts_each : (count : ℕ) (sets : List (List ℕ)) (set : List ℕ) (item : ℕ) → has_parts count sets set item ≡ true → (index : ℕ) → index < count → is_one_of sets (without index set ++ item ∷ []) ≡ true
parts_each zero sets set item h index below = absurd (omega arith)
parts_each (suc count) sets set item h index below =
    let b = and_parts (has_parts count sets set item) (is_one_of sets (without count set ++ item ∷ [])) h in
    elim (cases_lt index count) [
      | inl less ↦ parts_each count sets set item b.0 index less
      | inr more ↦ (let e : count ≡ index = omega arith in subst (λ n. is_one_of sets (without n set ++ item ∷ []) ≡ true) e b.1)
    ]

parts_from : (count : ℕ) (sets : List (List ℕ)) (set : List ℕ) (item : ℕ) → ((index : ℕ) → index < count → is_one_of sets (without index set ++ item ∷ []) ≡ true) → has_parts count sets set item ≡ true
parts_from zero sets set item each = refl
parts_from (suc count) sets set item each = (λ i. parts_from count sets set item (λ index below. each index (omega arith)) i && each count (omega arith) i)

without_before : (index : ℕ) (set : List ℕ) (item : ℕ) → index < length set → without index (set ++ item ∷ []) ≡ without index set ++ item ∷ []
without_before index [] item below = absurd (omega arith)
without_before zero (x ∷ set) item below = refl
without_before (suc index) (x ∷ set) item below = ap (λ l. x ∷ l) (without_before index set item (omega arith))

-- if a set and its prefix with an item are there, the other subsets decide
pub parts_decide : (sets : List (List ℕ)) (prefix : List ℕ) (first item : ℕ) → is_one_of sets (prefix ++ first ∷ []) ≡ true → is_one_of sets (prefix ++ item ∷ []) ≡ true
    → has_parts (length prefix) sets (prefix ++ first ∷ []) item ≡ has_subsets (suc (length prefix)) sets ((prefix ++ first ∷ []) ++ item ∷ [])
parts_decide sets prefix first item one other =
    same_test (has_parts last sets set item) (has_subsets (suc last) sets joined)
    (λ h. has_all last sets joined long (ap (is_one_of sets) (without_second prefix first item) ∙ one) (ap (is_one_of sets) (without_first prefix first item) ∙ other)
    (λ index below. ap (is_one_of sets) (without_before index set item (omega (arith, set_long, below))) ∙ parts_each last sets set item h index below))
    (λ h. parts_from last sets set item (λ index below. ap (is_one_of sets) (sym (without_before index set item (omega (arith, set_long, below))))
    ∙ each_of (is_one_of sets) (subsets_of_size (suc last) joined) h (without index joined) (Member-without (suc last) index joined long (omega (arith, below)))))
  where
    last : ℕ
    last = length prefix

    set : List ℕ
    set = prefix ++ first ∷ []

    joined : List ℕ
    joined = set ++ item ∷ []

    set_long : length set ≡ suc last
    set_long = length_after prefix first last refl

    long : length joined ≡ suc (suc last)
    long = length_after set item (suc last) set_long

-- ---- joins of the sets of a prefix

-- a group that is made of one of the items, with later ones
record IsJoinOf (size : ℕ) (sets : List (List ℕ)) (prefix items : List ℕ) (group : Group) : Type 0 where
  pub item : ℕ
  pub is : group.prefix ≡ prefix ++ item ∷ []
  pub here : Member item items
  pub rises : IsRising group.items
  pub later : (other : ℕ) → Member other group.items → (item < other) × (has_subsets size sets ((prefix ++ item ∷ []) ++ other ∷ []) ≡ true)

from_joined : (size : ℕ) (sets : List (List ℕ)) (prefix items : List ℕ) (group : Group) → IsRising items → Member group (joined_group size sets prefix items) → IsJoinOf size sets prefix items group
from_joined size sets prefix [] group up m = absurd m
from_joined size sets prefix (item ∷ items) group up (inl e) =
    let has : ℕ → Bool = λ other. has_subsets size sets ((prefix ++ item ∷ []) ++ other ∷ []) in
    subst (IsJoinOf size sets prefix (item ∷ items)) e (record {
      item = item;
      is = refl;
      here = inl refl;
      rises = filter_rises has items (rest_rises item items up);
      later = λ other n. let k = Member-filter has other items n in (first_below item items up other k.0, k.1);
    })
from_joined size sets prefix (item ∷ items) group up (inr m) =
    let j = from_joined size sets prefix items group (rest_rises item items up) m in
    record { item = j.item; is = j.is; here = inr j.here; rises = j.rises; later = j.later }

into_joined : (size : ℕ) (sets : List (List ℕ)) (prefix items : List ℕ) (first second : ℕ) → IsRising items → first < second → Member first items → Member second items
    → has_subsets size sets ((prefix ++ first ∷ []) ++ second ∷ []) ≡ true → (group : Group) × Member group (joined_group size sets prefix items) × (group.prefix ≡ prefix ++ first ∷ []) × Member second group.items
into_joined size sets prefix [] first second up less m n h = absurd m
into_joined size sets prefix (item ∷ items) first second up less (inl e) (inl f) h = absurd (omega (arith, e, f, less))
into_joined size sets prefix (item ∷ items) first second up less (inl e) (inr n) h =
    let has : ℕ → Bool = λ other. has_subsets size sets ((prefix ++ item ∷ []) ++ other ∷ []) in (
      record { prefix = prefix ++ item ∷ []; items = filter has items },
      inl refl,
      ap (λ x. prefix ++ x ∷ []) e,
      Member-from_filter has second items n (ap (λ x. has_subsets size sets ((prefix ++ x ∷ []) ++ second ∷ [])) e ∙ h),
    )
into_joined size sets prefix (item ∷ items) first second up less (inr m) (inl f) h = absurd (let below = first_below item items up first m in omega (arith, below, f, less))
into_joined size sets prefix (item ∷ items) first second up less (inr m) (inr n) h =
    let j = into_joined size sets prefix items first second (rest_rises item items up) less m n h in (j.0, inr j.1, j.2, j.3)

-- ---- a level

-- the joins of a group
abbrev pub join_of : List (List ℕ) → Group → List Group
join_of sets group = joined_group (suc (length group.prefix)) sets group.prefix group.items

-- the sets of all groups, joined
abbrev pub all_joined : List (List ℕ) → List Group → List Group
all_joined sets groups = flat_map (join_of sets) groups

-- the prefixes of the joins are the sets
group_prefixes : (size : ℕ) (sets : List (List ℕ)) (prefix items : List ℕ) → prefixes_of (joined_group size sets prefix items) ≡ extend prefix items
group_prefixes size sets prefix [] = refl
group_prefixes size sets prefix (x ∷ later) = ap (λ l. (prefix ++ x ∷ []) ∷ l) (group_prefixes size sets prefix later)

joined_prefixes : (sets : List (List ℕ)) (groups : List Group) → prefixes_of (all_joined sets groups) ≡ sets_of groups
joined_prefixes sets [] = refl
joined_prefixes sets (group ∷ groups) =
    map-append (λ (g : Group). g.prefix) (join_of sets group) (all_joined sets groups)
    ∙ (λ i. group_prefixes (suc (length group.prefix)) sets group.prefix group.items i ++ joined_prefixes sets groups i)

module _ (groups : List Group) (grouped : AreGrouped groups) (order : IsInReportOrder (sets_of groups)) where
  abbrev size : ℕ
  size = grouped.size

  abbrev sets : List (List ℕ)
  sets = sets_of groups

  abbrev joins : List Group
  joins = all_joined (sets_of groups) groups

  prefix_long : (group : Group) → Member group groups → length group.prefix ≡ size
  prefix_long group m = size_at size (prefixes_of groups) grouped.sized group.prefix (Member-map (λ (g : Group). g.prefix) group groups m)

  sets_sized : AreOfSize (suc size) sets
  sets_sized = of_each (λ set. length set ≡ suc size) sets (λ set m.
      let s = from_sets groups set m in ap length (sym s.4) ∙ length_after s.0.prefix s.1 size (prefix_long s.0 s.2))

  lexicographic : IsStrictlySortedBy (slice_cmp nat_cmp) sets
  lexicographic =
      sorted_along report_order (slice_cmp nat_cmp) sets
      (λ a b m n less. sym (same_order a b (size_at (suc size) sets sets_sized a m ∙ sym (size_at (suc size) sets sets_sized b n))) ∙ less) order

  joined_grouped : AreGrouped joins
  joined_grouped =
      let same = joined_prefixes sets groups in
      record {
        size = suc size;
        sized = subst (AreOfSize (suc size)) (sym same) sets_sized;
        sorted = subst (IsStrictlySortedBy (slice_cmp nat_cmp)) (sym same) lexicographic;
      }

  -- the candidates are grouped too
  pub candidates_grouped : AreGrouped (joined_groups sets groups)
  candidates_grouped = filter_grouped has_items joins joined_grouped

  join_from : (join : Group) → Member join joins → (from : Group) × Member from groups × IsJoinOf (suc size) sets from.prefix from.items join
  join_from join m = grind (arith, common_steps, Member-flat_map, from_joined, items_rise, lexicographic, Member, prefix_long)

  into_candidates_of : All IsRising sets → (set : List ℕ) → Member set (sets_of joins) → Member set (candidates_of sets)
  into_candidates_of rising set m =
      let s = from_sets joins set m in
      let f = join_from s.0 s.2 in
      let prefix = f.0.prefix in
      let item = f.2.item in
      let later = f.2.later s.1 s.3 in
      subst (λ l. Member l (candidates_of sets)) (ap (λ p. p ++ s.1 ∷ []) (sym f.2.is) ∙ s.4)
      (into_candidates size sets ((prefix ++ item ∷ []) ++ s.1 ∷ []) sets_sized
      (rises_after prefix item s.1 (at_each IsRising sets rising (prefix ++ item ∷ []) (into_sets groups f.0 item f.1 f.2.here)) later.0)
      (length_after (prefix ++ item ∷ []) s.1 (suc size) (length_after prefix item size (prefix_long f.0 f.1))) later.1)

  join_there : (group : Group) (first second : ℕ) → Member group groups → first < second → Member first group.items → Member second group.items
      → has_subsets (suc size) sets ((group.prefix ++ first ∷ []) ++ second ∷ []) ≡ true → Member ((group.prefix ++ first ∷ []) ++ second ∷ []) (sets_of joins)
  join_there group first second m less here later has =
      let j = into_joined (suc size) sets group.prefix group.items first second (items_rise groups lexicographic group m) less here later has in
      subst (λ p. Member (p ++ second ∷ []) (sets_of joins)) j.2
      (into_sets joins j.0 second (Member-into_flat_map (join_of sets) j.0 group groups m
      (subst (λ n. Member j.0 (joined_group (suc n) sets group.prefix group.items)) (sym (prefix_long group m)) j.1)) j.3)

  from_candidates_of : (set : List ℕ) → Member set (candidates_of sets) → Member set (sets_of joins)
  from_candidates_of set m =
      let s = subset_of_size (suc size) sets set sets_sized m in
      let e = ends_of size set s.0.sized in
      let there = without_is_there size sets set s.0.sized s.1 in
      let f = from_sets groups (e.front ++ e.first ∷ []) (subst (λ l. Member l sets) e.without_second (there (suc size) (omega arith))) in
      let g = from_sets groups (e.front ++ e.second ∷ []) (subst (λ l. Member l sets) e.without_first (there size (omega arith))) in
      let first = last_same f.0.prefix e.front f.1 e.first f.4 in
      let second = last_same g.0.prefix e.front g.1 e.second g.4 in
      let same : g.0 ≡ f.0 = same_group groups g.0 f.0 grouped.sorted g.2 f.2 (second.0 ∙ sym first.0) in
      let is : (f.0.prefix ++ f.1 ∷ []) ++ g.1 ∷ [] ≡ set = (λ i. f.4 i ++ second.1 i ∷ []) ∙ sym e.is in
      grind (arith, common_steps, Member, join_there, rising_ends)

  pub level_joined : All IsRising sets → sets_of (joined_groups sets groups) ≡ candidates_of sets
  level_joined rising =
      sets_filled joins
      ∙ same_members report_order_total (sets_of joins) (candidates_of sets) (sets_in_order joins joined_grouped (λ join m. (join_from join m).2.rises)) (candidates_are_in_report_order sets)
      (into_candidates_of rising) from_candidates_of

-- what is kept is grouped
pub kept_grouped : (passes : List ℕ → Bool) (groups : List Group) → AreGrouped groups → AreGrouped (kept passes groups)
kept_grouped passes groups grouped = grind (arith, common_steps, filter_grouped, passing, regrouped, map-map)
