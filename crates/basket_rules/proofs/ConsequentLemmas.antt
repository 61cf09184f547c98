-- Consequents as the indexes of their items: those of a size are the subsets of that size, and an index before the others makes the next size.
use Rattle.std.proofs.Common.{◌≡◌, ◌≢◌, ℕ, ◌+◌, ◌^◌, ◌<◌, ◌≤◌, Bool, true, false, not, cond, ◌||◌, add-one, eqb, ltb, List, [], ◌∷◌, ◌++◌, length, take, get_or, map, filter, refl, sym, ap, ◌∙◌, subst, inl, inr, arith, zero, suc}
use Rattle.std.proofs.lemmas.Grind.{common_steps}
use Rattle.std.specs.Prelude.{bit_or}
use Rattle.std.specs.List.{flat_map, range_with_len}
use Rattle.std.proofs.lemmas.Bool.{cases_Bool, cases_eq, cond_both, eqb-true, le-ltb, lt-ltb, false_from_ne_true}
use Rattle.std.proofs.lemmas.List.{append-nil, length-take, map-append, take_more}
use Rattle.std.proofs.lemmas.List.Concat.{flat_map-append}
use Rattle.std.proofs.lemmas.List.Elements.{filter-append}
use Rattle.std.proofs.lemmas.Nat.Bits.{bit_at-lt, bit_at-pow_other, bit_at-pow_same, bit_at-zero, bit_at_or}
use Rattle.basket_sets.specs.Itemset.{IsRising, has}
use Rattle.basket_sets.specs.Subsets.{subsets_of_size}
use Rattle.basket_sets.proofs.theory.Items.{filter_all, filter_none}
use Rattle.basket_sets.proofs.theory.Members.{Member, Member-append, Member-filter, Member-flat_map, Member-from_filter, Member-into_flat_map, Member-map, Member-from_map}
use Rattle.basket_sets.proofs.theory.Ranges.{filter_members, range_next}
use Rattle.basket_sets.proofs.theory.Rising.{has-from_Member, Member-from_has, cons_rises, first_below, rest_rises}
use Rattle.basket_rules.specs.declared.consequents.Consequent.{Consequent}
use Rattle.basket_rules.specs.declared.consequents.TheConstants.{MOST_BITS}
use Rattle.basket_rules.specs.Consequents.{chosen, chosen_from, has_bit, longer, longer_by, no_bits, side_of, with_bit}
use Rattle.basket_rules.specs.Rules.{difference}

-- ---- the items at indexes that pass a test

chosen-append : (test : ℕ → Bool) (index : ℕ) (items : List ℕ) (item : ℕ)
    → chosen_from test index (items ++ item ∷ []) ≡ chosen_from test index items ++ cond (test (index + length items)) (item ∷ []) []
chosen-append test index [] item = ap (λ n. cond (test n) (item ∷ []) []) (omega arith)
chosen-append test index (x ∷ items) item = grind (arith, common_steps, chosen-append test (suc index) items item)

-- one item more
chosen_more : (test : ℕ → Bool) (items : List ℕ) (index none : ℕ) → index < length items
    → chosen test (take (index + 1) items) ≡ chosen test (take index items) ++ cond (test index) (get_or items index none ∷ []) []
chosen_more test items index none below = grind (arith, common_steps, take_more, chosen-append, length-take)

pub item_taken : (test : ℕ → Bool) (items : List ℕ) (index none : ℕ) → index < length items → test index ≡ true
    → chosen test (take (index + 1) items) ≡ chosen test (take index items) ++ get_or items index none ∷ []
item_taken test items index none below h = chosen_more test items index none below ∙ ap (λ b. chosen test (take index items) ++ cond b (get_or items index none ∷ []) []) h

pub item_left : (test : ℕ → Bool) (items : List ℕ) (index : ℕ) → index < length items → test index ≡ false
    → chosen test (take (index + 1) items) ≡ chosen test (take index items)
item_left test items index below h = grind (arith, common_steps, chosen_more test items index 0 below, append-nil (chosen test (take index items)))

-- tests that agree on the indexes of a list
pub chosen_alike : (one other : ℕ → Bool) (start : ℕ) (items : List ℕ) → ((i : ℕ) → start ≤ i → i < start + length items → one i ≡ other i) → chosen_from one start items ≡ chosen_from other start items
chosen_alike one other start [] same = refl
chosen_alike one other start (x ∷ items) same =
    let rest = chosen_alike one other (suc start) items (λ k low h. same k (omega (arith, low)) (omega (arith, h))) in
    λ i. cond (same start (omega arith) (omega arith) i) (x ∷ rest i) (rest i)

-- no index passes
pub none_chosen : (test : ℕ → Bool) (start : ℕ) (items : List ℕ) → ((i : ℕ) → i < start + length items → test i ≡ false) → chosen_from test start items ≡ []
none_chosen test start [] fails = refl
none_chosen test start (x ∷ items) fails =
    ap (λ b. cond b (x ∷ chosen_from test (suc start) items) (chosen_from test (suc start) items)) (fails start (omega arith)) ∙ none_chosen test (suc start) items (λ k h. fails k (omega (arith, h)))

-- they are items of the list
pub Member-chosen : (test : ℕ → Bool) (index : ℕ) (items : List ℕ) (item : ℕ) → Member item (chosen_from test index items) → Member item items
Member-chosen test index [] item m = m
Member-chosen test index (x ∷ items) item m = cond_both (test index) (x ∷ chosen_from test (suc index) items) (chosen_from test (suc index) items) (λ l. Member item l → Member item (x ∷ items))
    (λ taken n. elim n [ inl e ↦ inl e | inr k ↦ inr (Member-chosen test (suc index) items item k) ]) (λ left n. inr (Member-chosen test (suc index) items item n)) m

-- they rise where the list does
pub chosen_rises : (test : ℕ → Bool) (index : ℕ) (items : List ℕ) → IsRising items → IsRising (chosen_from test index items)
chosen_rises test index [] up = up
chosen_rises test index (x ∷ items) up =
    let rest = chosen_from test (suc index) items in
    let rises = chosen_rises test (suc index) items (rest_rises x items up) in
    cond_both (test index) (x ∷ rest) rest IsRising (λ taken. cons_rises x rest (λ item m. first_below x items up item (Member-chosen test (suc index) items item m)) rises) (λ left. rises)

-- the more indexes pass, the more items
pub chosen_grows : (less more : ℕ → Bool) (index : ℕ) (items : List ℕ) (item : ℕ) → ((i : ℕ) → less i ≡ true → more i ≡ true)
    → Member item (chosen_from less index items) → Member item (chosen_from more index items)
chosen_grows less more index [] item grow m = m
chosen_grows less more index (x ∷ items) item grow m =
    let few = chosen_from less (suc index) items in
    let many = chosen_from more (suc index) items in
    let wider : List ℕ = cond (more index) (x ∷ many) many in
    cond_both (less index) (x ∷ few) few (λ l. Member item l → Member item wider)
    (λ taken n. subst (λ b. Member item (cond b (x ∷ many) many)) (sym (grow index taken)) (elim n [ inl e ↦ inl e | inr k ↦ inr (chosen_grows less more (suc index) items item grow k) ]))
    (λ left n. let there = chosen_grows less more (suc index) items item grow n in cond_both (more index) (x ∷ many) many (Member item) (λ h. inr there) (λ h. there)) m

-- ---- the other items

pub others_are : (test : ℕ → Bool) (index : ℕ) (items : List ℕ) → IsRising items
    → chosen_from (λ i. not (test i)) index items ≡ difference items (chosen_from test index items)
others_are test index [] up = refl
others_are test index (x ∷ items) up = elim (cases_Bool (test index)) [
  | inl e ↦
      (let now : chosen_from test index (x ∷ items) ≡ x ∷ rest = ap (λ b. cond b (x ∷ rest) rest) e in
      ap (λ b. cond (not b) (x ∷ others) others) e ∙ others_are test (suc index) items (rest_rises x items up)
      ∙ filter_members (λ item. not (has rest item)) (λ item. not (has (x ∷ rest) item)) items
      (λ y m. ap not (sym (apart y m)))
      ∙ sym (ap (λ b. cond (not b) (x ∷ difference items (x ∷ rest)) (difference items (x ∷ rest))) (has-from_Member (x ∷ rest) x (inl refl)))
      ∙ ap (difference (x ∷ items)) (sym now))
  | inr e ↦
      (let now : chosen_from test index (x ∷ items) ≡ rest = ap (λ b. cond b (x ∷ rest) rest) e in
      ap (λ b. cond (not b) (x ∷ others) others) e ∙ ap (λ l. x ∷ l) (others_are test (suc index) items (rest_rises x items up))
      ∙ sym (ap (λ b. cond (not b) (x ∷ difference items rest) (difference items rest)) lacks)
      ∙ ap (difference (x ∷ items)) (sym now))
]
  where
    rest : List ℕ
    rest = chosen_from test (suc index) items

    others : List ℕ
    others = chosen_from (λ i. not (test i)) (suc index) items

    apart : (y : ℕ) → Member y items → has (x ∷ rest) y ≡ has rest y
    apart y m = elim (cases_Bool (eqb x y)) [
      | inl e ↦ (let b = first_below x items up y m in let s = eqb-true x y e in absurd (omega arith))
      | inr e ↦ ap (λ b. b || has rest y) e
    ]

    lacks : has rest x ≡ false
    lacks = false_from_ne_true _ (λ h. let b = first_below x items up x (Member-chosen test (suc index) items x (Member-from_has rest x h)) in omega arith)

-- ---- the bits of indexes

has_new : (bits index : ℕ) → has_bit (bit_or bits (2 ^ index)) index ≡ true
has_new bits index = grind (arith, common_steps, bit_at_or, bit_at-pow_same, bit_at-lt)

has_other : (bits index other : ℕ) → other ≢ index → has_bit (bit_or bits (2 ^ index)) other ≡ has_bit bits other
has_other bits index other differ = grind (arith, common_steps, bit_at_or, bit_at-pow_other)

has_none : (index : ℕ) → has_bit 0 index ≡ false
has_none index = ap (λ n. eqb n 1) (bit_at-zero index)

has_stays : (bits index other : ℕ) → has_bit bits other ≡ true → has_bit (bit_or bits (2 ^ index)) other ≡ true
has_stays bits index other h = grind (arith, common_steps, cases_eq, has_new, has_other)

-- the items of a set are among those of the set with an index more
pub side_grows : (union : List ℕ) (index : ℕ) (consequent : Consequent) (item : ℕ) → Member item (side_of union consequent) → Member item (side_of union (with_bit index consequent))
side_grows union index consequent item = chosen_grows (has_bit consequent.bits) (has_bit (bit_or consequent.bits (2 ^ index))) 0 union item (has_stays consequent.bits index)

-- ---- all consequents of a size

-- those among the items from an index on
pub sides_of : ℕ → ℕ → List ℕ → List Consequent
sides_of zero index items = no_bits ∷ []
sides_of (suc size) index [] = []
sides_of (suc size) index (item ∷ items) = map (with_bit index) (sides_of size (suc index) items) ++ sides_of (suc size) (suc index) items

-- none has an index before
record IsFrom (index : ℕ) (consequent : Consequent) : Type 0 where
  first : index ≤ consequent.first
  lacks : (i : ℕ) → i < index → has_bit consequent.bits i ≡ false

are_from : (size index : ℕ) (items : List ℕ) → index + length items ≤ MOST_BITS → (consequent : Consequent) → Member consequent (sides_of size index items) → IsFrom index consequent
unfolding sides_of
are_from zero index items bound consequent (inl e) = subst (IsFrom index) e (record { first = omega (arith, bound); lacks = λ i h. has_none i })
are_from zero index items bound consequent (inr m) = absurd m
are_from (suc size) index [] bound consequent m = absurd m
are_from (suc size) index (x ∷ items) bound consequent m =
    elim (Member-append consequent (map (with_bit index) (sides_of size (suc index) items)) (sides_of (suc size) (suc index) items) m) [
      | inl n ↦
          (let r = Member-from_map (with_bit index) consequent (sides_of size (suc index) items) n in
          let old = are_from size (suc index) items (omega (arith, bound)) r.0 r.1 in
          subst (IsFrom index) r.2 (record {
            first = omega arith;
            lacks = λ i h. has_other r.0.bits index i (λ e. absurd (omega (arith, e, h))) ∙ old.lacks i (omega (arith, h));
          }))
      | inr n ↦
          (let old = are_from (suc size) (suc index) items (omega (arith, bound)) consequent n in
          record { first = (let f = old.first in omega arith); lacks = λ i h. old.lacks i (omega (arith, h)) })
    ]

side_from : ℕ → List ℕ → Consequent → List ℕ
side_from index items consequent = chosen_from (has_bit consequent.bits) index items

-- they have the items of the subsets of that size
with_first : (index x : ℕ) (items : List ℕ) (consequents : List Consequent) → map (side_from index (x ∷ items)) (map (with_bit index) consequents) ≡ map (λ set. x ∷ set) (map (side_from (suc index) items) consequents)
unfolding side_from
with_first index x items [] = refl
with_first index x items (consequent ∷ consequents) =
    let p = bit_or consequent.bits (2 ^ index) in
    let one : side_from index (x ∷ items) (with_bit index consequent) ≡ x ∷ side_from (suc index) items consequent =
    ap (λ b. cond b (x ∷ chosen_from (has_bit p) (suc index) items) (chosen_from (has_bit p) (suc index) items)) (has_new consequent.bits index)
    ∙ ap (λ l. x ∷ l) (chosen_alike (has_bit p) (has_bit consequent.bits) (suc index) items (λ i h _. has_other consequent.bits index i (λ e. absurd (omega (arith, e, h))))) in
    λ i. one i ∷ with_first index x items consequents i

without_first : (index x : ℕ) (items : List ℕ) (consequents : List Consequent) → ((consequent : Consequent) → Member consequent consequents → has_bit consequent.bits index ≡ false)
    → map (side_from index (x ∷ items)) consequents ≡ map (side_from (suc index) items) consequents
unfolding side_from
without_first index x items [] lack = refl
without_first index x items (consequent ∷ consequents) lack =
    λ i. cond (lack consequent (inl refl) i) (x ∷ side_from (suc index) items consequent) (side_from (suc index) items consequent) ∷ without_first index x items consequents (λ r m. lack r (inr m)) i

are_subsets : (size index : ℕ) (items : List ℕ) → index + length items ≤ MOST_BITS → map (side_from index items) (sides_of size index items) ≡ subsets_of_size size items
unfolding sides_of side_from
are_subsets zero index items bound = ap (λ l. l ∷ []) (none_chosen (has_bit 0) index items (λ i h. has_none i))
are_subsets (suc size) index [] bound = refl
are_subsets (suc size) index (x ∷ items) bound =
    let first = sides_of size (suc index) items in
    let others = sides_of (suc size) (suc index) items in
    map-append (side_from index (x ∷ items)) (map (with_bit index) first) others
    ∙ (λ i. (with_first index x items first ∙ ap (map (λ set. x ∷ set)) (are_subsets size (suc index) items (omega (arith, bound)))) i
    ++ (without_first index x items others (λ consequent m. (are_from (suc size) (suc index) items (omega (arith, bound)) consequent m).lacks index (omega arith)) ∙ are_subsets (suc size) (suc index) items (omega (arith, bound))) i)

pub sides_are_subsets : (size : ℕ) (union : List ℕ) → length union ≤ MOST_BITS → map (side_of union) (sides_of size 0 union) ≡ subsets_of_size size union
unfolding side_from
sides_are_subsets size union bound = are_subsets size 0 union (omega (arith, bound))

-- ---- the next size

before : ℕ → Consequent → Bool
before index consequent = ltb index consequent.first

none_before : (index other : ℕ) (consequents : List Consequent) → other ≤ index → filter (before index) (map (with_bit other) consequents) ≡ []
unfolding before
none_before index other consequents h = grind (arith, common_steps, filter_none, Member-from_map, le-ltb)

-- those without the first index are those that have it before their first
after : (size index x : ℕ) (items : List ℕ) → index + length (x ∷ items) ≤ MOST_BITS → filter (before index) (sides_of size index (x ∷ items)) ≡ sides_of size (suc index) items
unfolding sides_of before
after zero index x items bound = ap (λ b. cond b (no_bits ∷ []) []) (lt-ltb index MOST_BITS (omega (arith, bound)))
after (suc size) index x items bound =
    filter-append (before index) (map (with_bit index) (sides_of size (suc index) items)) (sides_of (suc size) (suc index) items)
    ∙ (λ i. none_before index index (sides_of size (suc index) items) (omega arith) i
    ++ filter_all (before index) (sides_of (suc size) (suc index) items)
    (λ consequent m. let f = (are_from (suc size) (suc index) items (omega (arith, bound)) consequent m).first in lt-ltb index consequent.first (omega arith)) i)

-- for a later index the first makes no difference
later : (size index x : ℕ) (items : List ℕ) (other : ℕ) → index ≤ other → filter (before other) (sides_of size index (x ∷ items)) ≡ filter (before other) (sides_of size (suc index) items)
unfolding sides_of
later h1 h2 h3 h4 h5 h6 = grind (arith, common_steps, filter-append, none_before)

longer_from : (size index : ℕ) (items : List ℕ) (consequents : List Consequent) → index + length items ≤ MOST_BITS
    → ((other : ℕ) → index ≤ other → filter (before other) consequents ≡ filter (before other) (sides_of size index items))
    → flat_map (longer_by consequents) (range_with_len index (length items)) ≡ sides_of (suc size) index items
unfolding sides_of before
longer_from size index [] consequents bound same = refl
longer_from size index (x ∷ items) consequents bound same =
    λ i. map (with_bit index) ((same index (omega arith) ∙ after size index x items bound) i)
    ++ (ap (λ n. flat_map (longer_by consequents) (range_with_len n (length items))) (add-one index)
    ∙ longer_from size (suc index) items consequents (omega (arith, bound)) (λ other h. same other (omega (arith, h)) ∙ later size index x items other (omega (arith, h)))) i

pub all_longer : (size : ℕ) (union : List ℕ) → length union ≤ MOST_BITS → longer (length union) (sides_of size 0 union) ≡ sides_of (suc size) 0 union
all_longer size union bound = longer_from size 0 union (sides_of size 0 union) (omega (arith, bound)) (λ other h. refl)

pub first_longer : (union : List ℕ) → length union ≤ MOST_BITS → longer (length union) (no_bits ∷ []) ≡ sides_of 1 0 union
unfolding sides_of
first_longer union bound = all_longer 0 union bound

pub longer_more : (met : List Consequent) (index : ℕ) → longer (index + 1) met ≡ longer index met ++ longer_by met index
longer_more met index = grind (arith, common_steps, range_next, flat_map-append, append-nil)

-- ---- those that pass a test which holds of a set with an index more only where it holds of the set

module _ (test : Consequent → Bool) where
  module _ (falls : (index : ℕ) (consequent : Consequent) → test (with_bit index consequent) ≡ true → test consequent ≡ true) where
    kept_by : (index : ℕ) (consequents : List Consequent) → filter test (longer_by (filter test consequents) index) ≡ filter test (longer_by consequents index)
    kept_by index [] = refl
    kept_by index (consequent ∷ consequents) = grind (arith, common_steps, kept_by index consequents)

    kept_of : (indexes : List ℕ) (consequents : List Consequent) → filter test (flat_map (longer_by (filter test consequents)) indexes) ≡ filter test (flat_map (longer_by consequents) indexes)
    kept_of [] consequents = refl
    kept_of (index ∷ indexes) consequents =
        filter-append test (longer_by (filter test consequents) index) (flat_map (longer_by (filter test consequents)) indexes)
        ∙ (λ i. kept_by index consequents i ++ kept_of indexes consequents i)
        ∙ sym (filter-append test (longer_by consequents index) (flat_map (longer_by consequents) indexes))

    pub kept_longer : (count : ℕ) (consequents : List Consequent) → filter test (longer count (filter test consequents)) ≡ filter test (longer count consequents)
    kept_longer count consequents = kept_of (range_with_len 0 count) consequents

  pub fewer_longer : (count : ℕ) (consequents : List Consequent) (consequent : Consequent) → Member consequent (longer count (filter test consequents)) → Member consequent (longer count consequents)
  fewer_longer count consequents consequent m =
      let from = Member-flat_map (longer_by (filter test consequents)) consequent (range_with_len 0 count) m in
      let index = from.0 in
      let r = Member-from_map (with_bit index) consequent (filter (λ r. ltb index r.first) (filter test consequents)) from.2 in
      let f = Member-filter (λ r. ltb index r.first) r.0 (filter test consequents) r.1 in
      Member-into_flat_map (longer_by consequents) consequent index (range_with_len 0 count) from.1
      (subst (λ x. Member x (longer_by consequents index)) r.2
      (Member-map (with_bit index) r.0 (filter (λ r. ltb index r.first) consequents) (Member-from_filter (λ r. ltb index r.first) r.0 consequents (Member-filter test r.0 consequents f.0).0 f.1)))
