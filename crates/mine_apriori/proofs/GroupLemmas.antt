-- Extensions in order of their prefixes, and the look-up of a set among them.
use Rattle.std.proofs.Common.{◌≡◌, ◌≢◌, ℕ, Bool, false, List, [], ◌∷◌, ◌++◌, length, drop, filter, get_or, refl, sym, ap, ◌∙◌, subst, inl, inr, arith}
use Rattle.std.proofs.lemmas.Grind.{common_steps}
use Rattle.std.specs.Cmp.Lexicographic.{slice_cmp, nat_list_cmp_total}
use Rattle.std.specs.List.Sorted.{IsStrictlySortedBy}
use Rattle.std.specs.Ordering.{nat_cmp}
use Rattle.std.specs.declared.cmp.Ordering.TheVariants.{Less}
use Rattle.std.proofs.lemmas.Bool.{cases_Bool, cond_both, true≢false}
use Rattle.basket_sets.specs.Itemset.{IsRising, has}
use Rattle.basket_sets.specs.Order.{report_order, IsInReportOrder}
use Rattle.basket_sets.proofs.theory.Members.{Member, Member-append_left, Member-filter, Member-flat_map, Member-into_flat_map, Member-map, Member-from_map, All-from_Member, first_is_less, rest_is_sorted, not_both_less, sorted_append, sorted_map}
use Rattle.basket_sets.proofs.theory.Rising.{Member-from_has, cons_rises, has-from_Member, lt-from_Less, nil_rises, same_test}
use Rattle.basket_sets.proofs.theory.Subsets.{same_length}
use Rattle.mine_apriori.specs.Candidates.{is_one_of}
use Rattle.mine_supports.specs.Extensions.{AreGrouped, Group, prefixes_of, extend, sets_of}
use Rattle.mine_supports.proofs.theory.Grouped.{last_less, less_last, less_longer, of_each, size_at}
use Rattle.mine_apriori.proofs.JoinLemmas.{length_after}
use Rattle.mine_apriori.proofs.PruneLemmas.{Member-from_is_one_of, is_one_of-from_Member}

-- ---- prefixes in order

filter_prefix : (p : Group → Bool) (groups : List Group) (prefix : List ℕ) → Member prefix (prefixes_of (filter p groups)) → Member prefix (prefixes_of groups)
filter_prefix p groups prefix m = grind (arith, common_steps, Member-from_map, Member, Member-map, Member-filter)

filter_sorted : (p : Group → Bool) (groups : List Group) → IsStrictlySortedBy (slice_cmp nat_cmp) (prefixes_of groups) → IsStrictlySortedBy (slice_cmp nat_cmp) (prefixes_of (filter p groups))
unfolding IsStrictlySortedBy
filter_sorted p [] up = up
filter_sorted p (first ∷ groups) up =
    let rest = filter_sorted p groups (rest_is_sorted nat_list_cmp_total first.prefix (prefixes_of groups) up) in
    cond_both (p first) (first ∷ filter p groups) (filter p groups) (λ l. IsStrictlySortedBy (slice_cmp nat_cmp) (prefixes_of l))
    (λ passes. (
      All-from_Member (λ z. slice_cmp nat_cmp first.prefix z ≡ Less) (prefixes_of (filter p groups))
          (λ prefix m. first_is_less nat_list_cmp_total first.prefix prefix (prefixes_of groups) up (filter_prefix p groups prefix m)),
      rest,
    ))
    (λ fails. rest)

pub filter_grouped : (p : Group → Bool) (groups : List Group) → AreGrouped groups → AreGrouped (filter p groups)
filter_grouped p groups grouped = record {
  size = grouped.size;
  sized = of_each (λ set. length set ≡ grouped.size) (prefixes_of (filter p groups)) (λ set m. size_at grouped.size (prefixes_of groups) grouped.sized set (filter_prefix p groups set m));
  sorted = filter_sorted p groups grouped.sorted;
}

-- no later prefix is the first
other_prefix : (first : List ℕ) (others : List (List ℕ)) (other : List ℕ) → IsStrictlySortedBy (slice_cmp nat_cmp) (first ∷ others) → Member other others → other ≢ first
other_prefix first others other up m e =
    let less = first_is_less nat_list_cmp_total first other others up m in
    let itself = subst (λ s. slice_cmp nat_cmp first s ≡ Less) e less in
    not_both_less nat_list_cmp_total first first itself itself

-- groups with one prefix are one
pub same_group : (groups : List Group) (one other : Group) → IsStrictlySortedBy (slice_cmp nat_cmp) (prefixes_of groups) → Member one groups → Member other groups → one.prefix ≡ other.prefix → one ≡ other
same_group [] one other up m n e = absurd m
same_group (first ∷ groups) one other up (inl is) (inl are) e = sym is ∙ are
same_group (first ∷ groups) one other up (inl is) (inr n) e =
    absurd (other_prefix first.prefix (prefixes_of groups) other.prefix up (Member-map (λ (g : Group). g.prefix) other groups n) (sym (ap (λ (g : Group). g.prefix) is ∙ e)))
same_group (first ∷ groups) one other up (inr m) (inl are) e =
    absurd (other_prefix first.prefix (prefixes_of groups) one.prefix up (Member-map (λ (g : Group). g.prefix) one groups m) (e ∙ sym (ap (λ (g : Group). g.prefix) are)))
same_group (first ∷ groups) one other up (inr m) (inr n) e = same_group groups one other (rest_is_sorted nat_list_cmp_total first.prefix (prefixes_of groups) up) m n e

-- ---- the sets of groups

pub from_sets : (groups : List Group) (set : List ℕ) → Member set (sets_of groups) → (group : Group) × (item : ℕ) × Member group groups × Member item group.items × (group.prefix ++ item ∷ [] ≡ set)
from_sets groups set m = grind (arith, common_steps, Member-flat_map, Member-from_map)

pub into_sets : (groups : List Group) (group : Group) (item : ℕ) → Member group groups → Member item group.items → Member (group.prefix ++ item ∷ []) (sets_of groups)
into_sets groups group item m n =
    Member-into_flat_map (λ (g : Group). extend g.prefix g.items) (group.prefix ++ item ∷ []) group groups m (Member-map (λ x. group.prefix ++ x ∷ []) item group.items n)

-- where all sets are in order, the items of each prefix rise
extended_rise : (prefix items : List ℕ) (rest : List (List ℕ)) → IsStrictlySortedBy (slice_cmp nat_cmp) (extend prefix items ++ rest) → IsRising items × IsStrictlySortedBy (slice_cmp nat_cmp) rest
extended_rise prefix [] rest up = (nil_rises, up)
extended_rise prefix (x ∷ items) rest up =
    let r = extended_rise prefix items rest (rest_is_sorted nat_list_cmp_total (prefix ++ x ∷ []) (extend prefix items ++ rest) up) in (
      cons_rises x items (λ y m. last_less prefix x y (first_is_less nat_list_cmp_total (prefix ++ x ∷ []) (prefix ++ y ∷ []) (extend prefix items ++ rest) up
          (Member-append_left (prefix ++ y ∷ []) (extend prefix items) rest (Member-map (λ z. prefix ++ z ∷ []) y items m)))) r.0,
      r.1,
    )

pub items_rise : (groups : List Group) → IsStrictlySortedBy (slice_cmp nat_cmp) (sets_of groups) → (group : Group) → Member group groups → IsRising group.items
items_rise [] up group m = absurd m
items_rise (first ∷ groups) up group (inl e) = subst (λ (g : Group). IsRising g.items) e (extended_rise first.prefix first.items (sets_of groups) up).0
items_rise (first ∷ groups) up group (inr m) = items_rise groups (extended_rise first.prefix first.items (sets_of groups) up).1 group m

-- and the other way round
sets_rise : (size : ℕ) (groups : List Group) → ((prefix : List ℕ) → Member prefix (prefixes_of groups) → length prefix ≡ size) → IsStrictlySortedBy (slice_cmp nat_cmp) (prefixes_of groups)
    → ((group : Group) → Member group groups → IsRising group.items) → IsInReportOrder (sets_of groups)
unfolding IsStrictlySortedBy
sets_rise size [] sized up rise = tt
sets_rise size (first ∷ groups) sized up rise =
    sorted_append report_order (extend prefix first.items) (sets_of groups)
    (sorted_map nat_cmp report_order (λ x. prefix ++ x ∷ []) first.items (λ x y less. same_length (prefix ++ x ∷ []) (prefix ++ y ∷ [])
    (length_after prefix x size long ∙ sym (length_after prefix y size long)) (less_last prefix x y (lt-from_Less x y less))) (rise first (inl refl)))
    (sets_rise size groups (λ p m. sized p (inr m)) (rest_is_sorted nat_list_cmp_total prefix (prefixes_of groups) up) (λ g m. rise g (inr m)))
    (λ a b m n. let p = Member-from_map (λ x. prefix ++ x ∷ []) a first.items m in let q = from_sets groups b n in
    let there = Member-map (λ (g : Group). g.prefix) q.0 groups q.2 in
    let other = sized q.0.prefix (inr there) in
    sym (λ i. report_order (p.2 i) (q.4 i)) ∙ same_length (prefix ++ p.0 ∷ []) (q.0.prefix ++ q.1 ∷ []) (length_after prefix p.0 size long ∙ sym (length_after q.0.prefix q.1 size other))
    (less_longer prefix q.0.prefix (p.0 ∷ []) (q.1 ∷ []) (long ∙ sym other) (first_is_less nat_list_cmp_total prefix q.0.prefix (prefixes_of groups) up there)))
  where
    prefix : List ℕ
    prefix = first.prefix

    long : length first.prefix ≡ size
    long = sized first.prefix (inl refl)

pub sets_in_order : (groups : List Group) → AreGrouped groups → ((group : Group) → Member group groups → IsRising group.items) → IsInReportOrder (sets_of groups)
sets_in_order groups grouped rise = sets_rise grouped.size groups (size_at grouped.size (prefixes_of groups) grouped.sized) grouped.sorted rise

-- ---- a set is looked up

pub last_same : (a b : List ℕ) (x y : ℕ) → a ++ x ∷ [] ≡ b ++ y ∷ [] → (a ≡ b) × (x ≡ y)
last_same [] [] x y e = (refl, ap (λ l. get_or l 0 0) e)
last_same [] (v ∷ b) x y e = grind (arith, common_steps)
last_same (u ∷ a) [] x y e = grind (arith, common_steps)
last_same (u ∷ a) (v ∷ b) x y e = grind (arith, common_steps, last_same a b x y (ap (drop 1) e))

pub looked_up : (groups : List Group) (group : Group) (item : ℕ) → IsStrictlySortedBy (slice_cmp nat_cmp) (prefixes_of groups) → Member group groups
    → is_one_of (sets_of groups) (group.prefix ++ item ∷ []) ≡ has group.items item
looked_up groups group item up here = same_test (is_one_of (sets_of groups) (group.prefix ++ item ∷ [])) (has group.items item)
    (λ h. let s = from_sets groups (group.prefix ++ item ∷ []) (Member-from_is_one_of (sets_of groups) (group.prefix ++ item ∷ []) h) in
    let last = last_same s.0.prefix group.prefix s.1 item s.4 in
    let same = same_group groups s.0 group up s.2 here last.0 in
    has-from_Member group.items item (subst (λ x. Member x group.items) last.1 (subst (λ (g : Group). Member s.1 g.items) same s.3)))
    (λ h. is_one_of-from_Member (sets_of groups) (group.prefix ++ item ∷ []) (into_sets groups group item here (Member-from_has group.items item h)))

pub missing : (groups : List Group) (prefix : List ℕ) (item : ℕ) → is_one_of (prefixes_of groups) prefix ≡ false → is_one_of (sets_of groups) (prefix ++ item ∷ []) ≡ false
missing groups prefix item none = elim (cases_Bool (is_one_of (sets_of groups) (prefix ++ item ∷ []))) [
  | inl e ↦ (let s = from_sets groups (prefix ++ item ∷ []) (Member-from_is_one_of (sets_of groups) (prefix ++ item ∷ []) e) in
      let there = subst (λ l. Member l (prefixes_of groups)) (last_same s.0.prefix prefix s.1 item s.4).0 (Member-map (λ (g : Group). g.prefix) s.0 groups s.2) in
      absurd (true≢false (sym (is_one_of-from_Member (prefixes_of groups) prefix there) ∙ none)))
  | inr e ↦ e
]
