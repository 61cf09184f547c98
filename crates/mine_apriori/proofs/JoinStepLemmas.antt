-- The candidates of a level, one set after another.
use Rattle.std.proofs.Common.{◌≡◌, ℕ, zero, suc, ◌+◌, ◌<◌, true, false, List, [], ◌∷◌, ◌++◌, length, take, drop, filter, get_or, sym, ap, ◌∙◌, subst, inr, refl, arith}
use Rattle.std.proofs.lemmas.Grind.{common_steps}
use Rattle.std.specs.Cmp.Lexicographic.{slice_cmp}
use Rattle.std.specs.List.{All}
use Rattle.std.specs.List.Sorted.{IsStrictlySortedBy}
use Rattle.std.specs.Ordering.{nat_cmp}
use Rattle.std.proofs.lemmas.List.{drop_more, get_or-map, get_or_default}
use Rattle.std.proofs.lemmas.List.Elements.{filter-append, filter_agree}
use Rattle.basket_sets.specs.Itemset.{IsRising, has, without}
use Rattle.basket_sets.proofs.theory.Items.{filter_none}
use Rattle.basket_sets.proofs.theory.Members.{Member, Member-from_Contains, Member-map}
use Rattle.basket_sets.proofs.theory.Ranges.{filter_members}
use Rattle.basket_sets.proofs.theory.Rising.{Member-from_has, has-from_Member, has_at, rest_rises}
use Rattle.mine_apriori.specs.Candidates.{is_one_of, has_subsets}
use Rattle.mine_supports.specs.Extensions.{AreGrouped, Group, lists_of, sets_of, prefixes_of, has_items}
use Rattle.mine_apriori.specs.Join.{AreParts, has_parts, joined_group}
use Rattle.mine_supports.specs.Sizes.{AreOfSize}
use Rattle.mine_supports.proofs.theory.Extensions.{no_group}
use Rattle.mine_supports.proofs.theory.Grouped.{at_each, size_at}
use Rattle.mine_apriori.proofs.GroupLemmas.{into_sets, looked_up, missing}
use Rattle.mine_apriori.proofs.JoinedLemmas.{all_joined, parts_decide}
use Rattle.mine_apriori.proofs.PruneLemmas.{filter_both, is_one_of-from_Member}

-- ---- one set more is joined

-- what is left of rising items rises
pub drop_rises : (k : ℕ) (items : List ℕ) → IsRising items → IsRising (drop k items)
drop_rises zero items up = up
drop_rises (suc k) [] up = up
drop_rises (suc k) (x ∷ items) up = drop_rises k items (rest_rises x items up)

Member-from_drop : (k : ℕ) (items : List ℕ) (x : ℕ) → Member x (drop k items) → Member x items
Member-from_drop zero items x m = m
Member-from_drop (suc k) [] x m = absurd m
Member-from_drop (suc k) (y ∷ items) x m = inr (Member-from_drop k items x m)

module _ (groups : List Group) (prefix items : List ℕ) (parts : AreParts groups prefix items) (index : ℕ) (below : index < length items) where
  abbrev set : List ℕ
  set = prefix ++ get_or items index 0 ∷ []

  abbrev later : List ℕ
  later = drop (index + 1) items

  abbrev kept_items : List ℕ
  kept_items = filter (has_parts (length prefix) (sets_of groups) set) later

  kept_is : kept_items ≡ filter (λ x. has_subsets (suc (length prefix)) (sets_of groups) (set ++ x ∷ [])) later
  kept_is = grind (arith, common_steps, filter_members, parts_decide, has_at, has-from_Member, Member-from_drop)

  pub join_more : (found : List Group)
      → (found ++ filter has_items (record { prefix = set; items = kept_items } ∷ [])) ++ filter has_items (joined_group (suc (length prefix)) (sets_of groups) prefix later)
      ≡ found ++ filter has_items (joined_group (suc (length prefix)) (sets_of groups) prefix (drop index items))
  join_more found = grind (arith, common_steps, filter-append, kept_is, drop_more)

-- ---- one prefix more

pub group_more : (sets : List (List ℕ)) (groups found more : List Group) (index : ℕ) (d : Group) → index < length groups → found ≡ filter has_items (all_joined sets (take index groups))
    → (let group = get_or groups index d in more ≡ found ++ filter has_items (joined_group (suc (length group.prefix)) sets group.prefix group.items))
    → more ≡ filter has_items (all_joined sets (take (index + 1) groups))
group_more sets groups found more index d below before is = grind (arith, common_steps)

pub group_parts : (groups : List Group) (index : ℕ) (d : Group) → AreGrouped groups → All IsRising (sets_of groups) → index < length groups → IsRising (get_or groups index d).items
    → AreParts groups (get_or groups index d).prefix (get_or groups index d).items
group_parts groups index d grouped rising below up =
    let group = get_or groups index d in
    let here = Member-from_Contains group groups (index, below, get_or_default groups index group d below) in
    let size = size_at grouped.size (prefixes_of groups) grouped.sized group.prefix (Member-map (λ (g : Group). g.prefix) group groups here) in
    let there = λ (item : ℕ) (h : has group.items item ≡ true). into_sets groups group item here (Member-from_has group.items item h) in
    record {
      sized = subst (λ n. AreOfSize n (prefixes_of groups)) (sym size) grouped.sized;
      sorted = grouped.sorted;
      there = λ item h. is_one_of-from_Member (sets_of groups) (group.prefix ++ item ∷ []) (there item h);
      rising = λ item h. at_each IsRising (sets_of groups) rising (group.prefix ++ item ∷ []) (there item h);
      items_rise = up;
    }

-- ---- one index more

pub parts_none : (sets : List (List ℕ)) (set items : List ℕ) → filter (has_parts 0 sets set) items ≡ items
parts_none sets one [] = refl
parts_none sets one (x ∷ items) = ap (λ l. x ∷ l) (parts_none sets one items)

pub parts_more : (sets : List (List ℕ)) (set items old new : List ℕ) (index : ℕ) → old ≡ filter (has_parts index sets set) items → new ≡ filter (λ x. is_one_of sets (without index set ++ x ∷ [])) old → new ≡ filter (has_parts (index + 1) sets set) items
parts_more sets set items old new index before is = let one : suc index ≡ index + 1 = omega arith in grind (arith, common_steps, filter_both)

pub kept_found : (groups : List Group) (at : ℕ) (prefix items : List ℕ) → IsStrictlySortedBy (slice_cmp nat_cmp) (prefixes_of groups) → at < length groups → get_or (prefixes_of groups) at [] ≡ prefix
    → filter (has (get_or (lists_of groups) at [])) items ≡ filter (λ x. is_one_of (sets_of groups) (prefix ++ x ∷ [])) items
kept_found groups at prefix items up below is =
    let group = get_or groups at no_group in
    let here = Member-from_Contains group groups (at, below, get_or_default groups at group no_group below) in
    let first = sym (get_or-map (λ (g : Group). g.prefix) groups at no_group [] below) ∙ is in
    grind (arith, common_steps, filter_agree, get_or-map, no_group, looked_up)

pub kept_missing : (groups : List Group) (prefix items : List ℕ) → is_one_of (prefixes_of groups) prefix ≡ false → [] ≡ filter (λ x. is_one_of (sets_of groups) (prefix ++ x ∷ [])) items
kept_missing groups prefix items none = sym (filter_none (λ x. is_one_of (sets_of groups) (prefix ++ x ∷ [])) items (λ x m. missing groups prefix x none))
