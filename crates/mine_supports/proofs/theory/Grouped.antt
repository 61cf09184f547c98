-- Sets of one size in report order are grouped by their prefixes.
use Rattle.std.proofs.Common.{◌≡◌, ◌≢◌, ℕ, ◌<◌, ◌≤◌, true, List, [], ◌∷◌, ◌++◌, length, filter, take, get_or, cond, refl, sym, ap, ◌∙◌, subst, inl, inr, arith, suc}
use Rattle.std.proofs.lemmas.Grind.{common_steps}
use Rattle.std.specs.declared.cmp.Ordering.{Ordering}
use Rattle.std.specs.declared.cmp.Ordering.TheVariants.{Less, Equal}
use Rattle.std.specs.Cmp.Lexicographic.{slice_cmp, nat_list_cmp_total}
use Rattle.std.specs.List.{All}
use Rattle.std.specs.List.Sorted.{IsStrictlySortedBy}
use Rattle.std.specs.Ordering.{nat_cmp, ordering_then}
use Rattle.std.proofs.lemmas.Bool.Decides.{nat_tests}
use Rattle.std.proofs.lemmas.List.{get_or-take, get_or_default, length-take, length_push, map-append}
use Rattle.std.proofs.lemmas.List.Elements.{All-append, All-from_recursion, All-take, recursion_from_All}
use Rattle.std.proofs.lemmas.Map.Keys.{Less-from_sorted}
use Rattle.std.proofs.lemmas.Map.Views.{All-before_last}
use Rattle.basket_sets.specs.Itemset.{IsRising}
use Rattle.basket_sets.specs.Order.{IsInReportOrder, report_order}
use Rattle.basket_sets.proofs.theory.Members.{Contains-from_Member, Member, Member-append, Member-append_right, Member-map, All-from_Member, at_Member, sorted_append}
use Rattle.basket_sets.proofs.theory.Rising.{Less-from_lt, cons_rises, lt-from_Less, nil_rises}
use Rattle.basket_sets.proofs.theory.Subsets.{same_head, same_order}
use Rattle.mine_supports.specs.Extensions.{AreGrouped, Group, extend, has_items, is_some, prefixes_of}
use Rattle.mine_supports.specs.Sizes.{AreOfOneSize, AreOfSize, IsRegular}

-- ---- sets of one size

-- what holds of each member holds of all, and the other way round
pub of_each : {X : Type 0} (P : X → Type 0) (xs : List X) → ((x : X) → Member x xs → P x) → All P xs
of_each P xs each = All-from_recursion P xs (All-from_Member P xs each)

pub at_each : {X : Type 0} (P : X → Type 0) (xs : List X) → All P xs → (x : X) → Member x xs → P x
at_each P xs all x m = at_Member P x xs (recursion_from_All P xs all) m

pub size_at : (size : ℕ) (sets : List (List ℕ)) → AreOfSize size sets → (set : List ℕ) → Member set sets → length set ≡ size
size_at size = at_each (λ set. length set ≡ size)

long_is_some : (set : List ℕ) → 1 ≤ length set → is_some set ≡ true
long_is_some h1 h2 = grind (arith, common_steps)

each_some : (size : ℕ) (sets : List (List ℕ)) → 1 ≤ size → AreOfSize size sets → filter is_some sets ≡ sets
each_some size [] some sized = refl
each_some size (set ∷ sets) some sized =
    let here = long_is_some set (let long = sized 0 [] (omega arith) in omega (arith, long, some)) in
    let rest = each_some size sets some (λ k d below. sized (suc k) d (omega (arith, below))) in
    (λ i. cond (here i) (set ∷ rest i) (rest i))

-- sets of one size have items
pub all_some : (sets : List (List ℕ)) → AreOfOneSize sets → filter is_some sets ≡ sets
all_some sets sized = each_some sized.0 sets sized.1 sized.2

-- ---- order

then_less : (o p q : Ordering) → (o ≡ Equal → p ≡ Less → q ≡ Less) → ordering_then o p ≡ Less → ordering_then o q ≡ Less
then_less h1 h2 h3 h4 h5 = grind (arith, common_steps)

decided : (o : Ordering) → ordering_then o Equal ≡ Less → o ≡ Less
decided h1 h2 = grind (arith, common_steps)

equal : (x y : ℕ) → nat_cmp x y ≡ Equal → x ≡ y
equal x y e = grind (arith, nat_tests)

pub less_last : (front : List ℕ) (x y : ℕ) → x < y → slice_cmp nat_cmp (front ++ x ∷ []) (front ++ y ∷ []) ≡ Less
less_last [] x y h = ap (λ o. ordering_then o Equal) (Less-from_lt x y h)
less_last (z ∷ front) x y h = same_head z (front ++ x ∷ []) (front ++ y ∷ []) ∙ less_last front x y h

pub last_less : (front : List ℕ) (x y : ℕ) → slice_cmp nat_cmp (front ++ x ∷ []) (front ++ y ∷ []) ≡ Less → x < y
last_less [] x y h = lt-from_Less x y (decided (nat_cmp x y) h)
last_less (z ∷ front) x y h = last_less front x y (sym (same_head z (front ++ x ∷ []) (front ++ y ∷ [])) ∙ h)

pub less_longer : (a b u v : List ℕ) → length a ≡ length b → slice_cmp nat_cmp a b ≡ Less → slice_cmp nat_cmp (a ++ u) (b ++ v) ≡ Less
less_longer [] [] u v e h = let no : Equal ≡ Less = h in cc
less_longer [] (y ∷ b) u v e h = absurd (omega (arith, e))
less_longer (x ∷ a) [] u v e h = absurd (omega (arith, e))
less_longer (x ∷ a) (y ∷ b) u v e h =
    then_less (nat_cmp x y) (slice_cmp nat_cmp a b) (slice_cmp nat_cmp (a ++ u) (b ++ v)) (λ _ less. less_longer a b u v (omega (arith, e)) less) h

-- different fronts decide
front_less : (a b u v : List ℕ) → length a ≡ length b → a ≢ b → slice_cmp nat_cmp (a ++ u) (b ++ v) ≡ Less → slice_cmp nat_cmp a b ≡ Less
front_less [] [] u v e differ h = absurd (differ refl)
front_less [] (y ∷ b) u v e differ h = absurd (omega (arith, e))
front_less (x ∷ a) [] u v e differ h = absurd (omega (arith, e))
front_less (x ∷ a) (y ∷ b) u v e differ h =
    then_less (nat_cmp x y) (slice_cmp nat_cmp (a ++ u) (b ++ v)) (slice_cmp nat_cmp a b)
    (λ is less. front_less a b u v (omega (arith, e)) (λ same. differ (λ i. equal x y is i ∷ same i)) less) h

-- what stands before an index of sets in order is less
before_index : (sets : List (List ℕ)) (i : ℕ) (set d : List ℕ) → IsInReportOrder sets → i < length sets → Member set (take i sets) → report_order set (get_or sets i d) ≡ Less
before_index sets i set d up here m =
    let at = Contains-from_Member set (take i sets) m in
    let low : at.0 < i = let below = at.1 in omega (arith, length-take i sets) in
    subst (λ s. report_order s (get_or sets i d) ≡ Less) (sym (get_or-take i sets at.0 set low) ∙ at.2)
    (ap (λ s. report_order s (get_or sets i d)) (get_or_default sets at.0 set d (omega arith)) ∙ Less-from_sorted report_order sets at.0 i d up low here)

-- ---- groups in order

pub regrouped : (groups others : List Group) → prefixes_of groups ≡ prefixes_of others → AreGrouped groups → AreGrouped others
regrouped groups others same grouped = grind (arith, common_steps)

none_grouped : AreGrouped []
unfolding IsStrictlySortedBy
none_grouped = record { size = 0; sized = λ k d below. absurd (omega arith); sorted = tt }

pub one_grouped : (group : Group) → AreGrouped (group ∷ [])
unfolding IsStrictlySortedBy
one_grouped group = record {
  size = length group.prefix;
  sized = All-from_recursion (λ set. length set ≡ length group.prefix) (group.prefix ∷ []) (refl, tt);
  sorted = (tt, tt);
}

prefixes_push : (groups : List Group) (group : Group) → prefixes_of (groups ++ group ∷ []) ≡ prefixes_of groups ++ group.prefix ∷ []
prefixes_push groups group = map-append (λ (g : Group). g.prefix) groups (group ∷ [])

-- a group after the last
group_after : (groups : List Group) (last next : Group) → AreGrouped (groups ++ last ∷ []) → length next.prefix ≡ length last.prefix → slice_cmp nat_cmp last.prefix next.prefix ≡ Less
    → AreGrouped ((groups ++ last ∷ []) ++ next ∷ [])
unfolding IsStrictlySortedBy
group_after groups last next grouped long less =
    let before = groups ++ last ∷ [] in
    let is = prefixes_push before next in
    let here = subst (Member last.prefix) (sym (prefixes_push groups last)) (Member-append_right last.prefix (prefixes_of groups) (last.prefix ∷ []) (inl refl)) in
    record {
      size = grouped.size;
      sized = subst (AreOfSize grouped.size) (sym is) (All-append (λ set. length set ≡ grouped.size) (prefixes_of before) (next.prefix ∷ []) grouped.sized
          (All-from_recursion (λ set. length set ≡ grouped.size) (next.prefix ∷ []) (long ∙ size_at grouped.size (prefixes_of before) grouped.sized last.prefix here, tt)));
      sorted = subst (IsStrictlySortedBy (slice_cmp nat_cmp)) (sym is) (sorted_append (slice_cmp nat_cmp) (prefixes_of before) (next.prefix ∷ []) grouped.sorted (tt, tt)
          (λ a b m n. elim n [ inl e ↦ subst (λ s. slice_cmp nat_cmp a s ≡ Less) e (up_to a (subst (Member a) (prefixes_push groups last) m)) | inr none ↦ absurd none ]));
    }
  where
    up_to : (a : List ℕ) → Member a (prefixes_of groups ++ last.prefix ∷ []) → slice_cmp nat_cmp a next.prefix ≡ Less
    up_to a m = elim (Member-append a (prefixes_of groups) (last.prefix ∷ []) m) [
      | inl n ↦ nat_list_cmp_total.trans a last.prefix next.prefix (at_each (λ p. slice_cmp nat_cmp p last.prefix ≡ Less) (prefixes_of groups) (All-before_last (slice_cmp nat_cmp) (prefixes_of groups) last.prefix (subst (IsStrictlySortedBy (slice_cmp nat_cmp)) (prefixes_push groups last) grouped.sorted)) a n) less
      | inr n ↦ elim n [ inl e ↦ subst (λ s. slice_cmp nat_cmp s next.prefix ≡ Less) e less | inr none ↦ absurd none ]
    ]

-- ---- one set after another

-- groups, and one after them that is begun: only the first may have no items yet
pub record AreBegun (groups : List Group) (prefix items : List ℕ) : Type 0 where
  pub begun : items ≡ [] → groups ≡ []
  pub grouped : AreGrouped (groups ++ record { prefix = prefix; items = items } ∷ [])

pub none_begun : (prefix : List ℕ) → AreBegun [] prefix []
none_begun prefix = record { begun = λ _. refl; grouped = one_grouped (record { prefix = prefix; items = [] }) }

pub begun_as : (groups others : List Group) (prefix other items more : List ℕ) → others ≡ groups → other ≡ prefix → more ≡ items → AreBegun groups prefix items → AreBegun others other more
begun_as groups others prefix other items more same front ends are = grind (arith, common_steps)

pub all_grouped : (groups : List Group) (prefix items : List ℕ) → AreBegun groups prefix items → AreGrouped (groups ++ filter has_items (record { prefix = prefix; items = items } ∷ []))
all_grouped h1 h2 h3 h4 = grind (arith, common_steps, none_grouped)

-- an item more
pub item_begun : (groups : List Group) (prefix items : List ℕ) (item : ℕ) → AreBegun groups prefix items → AreBegun groups prefix (items ++ item ∷ [])
item_begun groups prefix items item are = grind (arith, common_steps)

pub one_rises : (x : ℕ) → IsRising (x ∷ [])
one_rises x = cons_rises x [] (λ y m. absurd m) nil_rises

-- the sets before a set are as large, and less
pub record AreBefore (sets : List (List ℕ)) (set : List ℕ) : Type 0 where
  pub long : (other : List ℕ) → Member other sets → length other ≡ length set
  pub less : (other : List ℕ) → Member other sets → slice_cmp nat_cmp other set ≡ Less

pub are_before : (sets : List (List ℕ)) (i : ℕ) (set : List ℕ) (before ends : List (List ℕ)) → IsRegular sets → i < length sets → set ≡ get_or sets i set → before ++ ends ≡ take i sets → AreBefore ends set
are_before sets i set before ends regular here is are = record { long = long; less = less }
  where
    taken : (other : List ℕ) → Member other ends → Member other (take i sets)
    taken other m = subst (Member other) are (Member-append_right other before ends m)

    long : (other : List ℕ) → Member other ends → length other ≡ length set
    long other m =
        let size = regular.0.0 in
        let sized = regular.0.2 in
        size_at size (take i sets) (All-take (λ s. length s ≡ size) i sets sized) other (taken other m) ∙ sym (ap length is ∙ sized i set here)

    less : (other : List ℕ) → Member other ends → slice_cmp nat_cmp other set ≡ Less
    less other m =
        sym (same_order other set (long other m)) ∙ ap (report_order other) is ∙ before_index sets i other set regular.1 here (taken other m)

-- a greater set with the same prefix has a greater last item
pub item_rises : (prefix items : List ℕ) (item : ℕ) → AreBefore (extend prefix items) (prefix ++ item ∷ []) → IsRising items → IsRising (items ++ item ∷ [])
item_rises prefix items item before up = sorted_append nat_cmp items (item ∷ []) up (one_rises item)
    (λ a b m n. elim n [
      | inl e ↦ Less-from_lt a b (subst (λ z. a < z) e (last_less prefix a item (before.less (prefix ++ a ∷ []) (Member-map (λ x. prefix ++ x ∷ []) a items m))))
      | inr none ↦ absurd none
    ])

-- one with another prefix begins a group
pub next_begun : (groups : List Group) (prefix items next : List ℕ) (item : ℕ) → AreBefore (extend prefix items) (next ++ item ∷ []) → AreBegun groups prefix items → prefix ≢ next
    → AreBegun (groups ++ filter has_items (record { prefix = prefix; items = items } ∷ [])) next (item ∷ [])
next_begun groups prefix [] next item before are differ =
    subst (λ l. AreBegun (l ++ []) next (item ∷ [])) (sym (are.begun refl)) (item_begun [] next [] item (none_begun next))
next_begun groups prefix (x ∷ items) next item before are differ =
    let long = before.long (prefix ++ x ∷ []) (inl refl) in
    let same : length prefix ≡ length next = omega (arith, long, length_push prefix x, length_push next item) in
    record {
      begun = λ e. absurd (omega (arith, ap length e));
      grouped = group_after groups (record { prefix = prefix; items = x ∷ items }) (record { prefix = next; items = item ∷ [] }) are.grouped (sym same)
          (front_less prefix next (x ∷ []) (item ∷ []) same differ (before.less (prefix ++ x ∷ []) (inl refl)));
    }
