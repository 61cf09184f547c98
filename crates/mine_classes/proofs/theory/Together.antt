-- The classes are together all frequent sets, each once.
use Rattle.std.proofs.Common.{◌≡◌, ℕ, ◌+◌, ◌<◌, ◌≤◌, Bool, true, false, List, [], ◌∷◌, length, get_or, sym, ◌∙◌, subst, inl, inr, arith, zero, suc}
use Rattle.std.specs.Prelude.{nat_eq}
use Rattle.std.specs.Cmp.Lexicographic.{pointwise}
use Rattle.std.specs.List.{AllByRecursion, IsDistinct, flat_map}
use Rattle.std.proofs.lemmas.List.{map-append}
use Rattle.std.proofs.lemmas.List.Elements.{All-from_recursion, recursion_from_All}
use Rattle.basket_sets.specs.declared.weighted.Weighted.{Weighted}
use Rattle.basket_sets.specs.declared.counted.Counted.{Counted}
use Rattle.basket_sets.specs.declared.minimum.Minimum.{Minimum}
use Rattle.basket_ranks.specs.Codes.{IsCodedBasket}
use Rattle.basket_sets.specs.Frequent.{IsNonemptySet, counted, frequent_of, is_frequent}
use Rattle.basket_sets.specs.Support.{support_of, total_of}
use Rattle.basket_sets.proofs.theory.Members.{Member, All-from_Member, at_Member, Member-append, Member-append_left, Member-append_right, Member-filter, Member-from_filter, Member-from_Contains, Contains-from_Member}
use Rattle.basket_sets.proofs.theory.Rising.{has-from_Member}
use Rattle.basket_sets.proofs.theory.Support.{at_least_one, in_items}
use Rattle.basket_sets.proofs.theory.Frequent.{frequent_once}
use Rattle.mine_classes.specs.Classes.{ends_in, class_of, ListsClass, ClassesAreListed, ClassesAreAll}
use Rattle.mine_classes.proofs.theory.Greatest.{sets, Member-sets, Member-end, some_end, one_end}
use Rattle.mine_classes.proofs.theory.Classes.{IsOfRank}
use Rattle.mine_classes.proofs.theory.Lists.{apart, distinct-append, distinct-filter}

-- ---- the classes of a database

module _ (baskets : List Weighted) (minimum : Minimum) where
  abbrev IsOfFrequent : Counted → Type 0
  IsOfFrequent c = IsNonemptySet c.set × (is_frequent baskets minimum c.set ≡ true) × (c.count ≡ support_of baskets c.set)

  -- lists of the classes of the ranks from one on
  abbrev ListFrom : ℕ → List (List Counted) → Type 0
  ListFrom first classes = (k : ℕ) → k < length classes → ListsClass baskets minimum (first + k) (get_or classes k [])

  abbrev all : List (List Counted) → List Counted
  all classes = flat_map (λ class. class) classes

  head_lists : (first : ℕ) (class : List Counted) (classes : List (List Counted)) → ListFrom first (class ∷ classes) → ListsClass baskets minimum first class
  head_lists first class classes h = subst (λ rank. ListsClass baskets minimum rank class) (omega arith) (h 0 (omega arith))

  tail_lists : (first : ℕ) (class : List Counted) (classes : List (List Counted)) → ListFrom first (class ∷ classes) → ListFrom (first + 1) classes
  tail_lists first class classes h k below = subst (λ rank. ListsClass baskets minimum rank (get_or classes k [])) (omega arith) (h (suc k) (omega arith))

  in_class : (rank : ℕ) (class : List Counted) → ListsClass baskets minimum rank class → (c : Counted) → Member c class → IsOfRank baskets minimum rank c
  in_class rank class lists c m = at_Member (IsOfRank baskets minimum rank) c class (recursion_from_All (IsOfRank baskets minimum rank) class lists.sound) m

  -- each set of the lists is in the class of a rank from that on
  from_all : (first : ℕ) (classes : List (List Counted)) → ListFrom first classes → (c : Counted) → Member c (all classes) → (rank : ℕ) × (first ≤ rank) × IsOfRank baskets minimum rank c
  from_all first [] h c m = absurd m
  from_all first (class ∷ classes) h c m = elim (Member-append c class (all classes) m) [
    | inl n ↦ (first, omega arith, in_class first class (head_lists first class classes h) c n)
    | inr n ↦ let r = from_all (first + 1) classes (tail_lists first class classes h) c n in (r.0, (let low = r.1 in omega arith), r.2)
  ]

  into_all : (first : ℕ) (classes : List (List Counted)) → ListFrom first classes → (k : ℕ) → k < length classes
      → (set : List ℕ) → IsNonemptySet set → ends_in (first + k) set ≡ true → is_frequent baskets minimum set ≡ true → Member (counted baskets set) (all classes)
  into_all first [] h k below set n ends frequent = absurd (omega arith)
  into_all first (class ∷ classes) h zero below set n ends frequent =
      Member-append_left (counted baskets set) class (all classes)
      (Member-from_Contains (counted baskets set) class ((h 0 below).complete set n ends frequent))
  into_all first (class ∷ classes) h (suc k) below set n ends frequent =
      Member-append_right (counted baskets set) class (all classes)
      (into_all (first + 1) classes (tail_lists first class classes h) k (omega arith) set n (subst (λ rank. ends_in rank set ≡ true) (omega arith) ends) frequent)

  all_distinct : (first : ℕ) (classes : List (List Counted)) → ListFrom first classes → IsDistinct (pointwise nat_eq) (sets (all classes))
  unfolding IsDistinct
  all_distinct first [] h = tt
  all_distinct first (class ∷ classes) h =
      subst (IsDistinct (pointwise nat_eq)) (sym (map-append (λ (c : Counted). c.set) class (all classes)))
      (distinct-append (pointwise nat_eq) (sets class) (sets (all classes)) (head_lists first class classes h).distinct
      (all_distinct (first + 1) classes (tail_lists first class classes h)) across)
    where
      across : (a b : List ℕ) → Member a (sets class) → Member b (sets (all classes)) → pointwise nat_eq a b ≡ false
      across a b m n =
          let p = Member-sets a class m in
          let q = Member-sets b (all classes) n in
          let r = from_all (first + 1) classes (tail_lists first class classes h) q.0 q.1 in
          let ends = (in_class first class (head_lists first class classes h) p.0 p.1).1 in
          apart a b (λ same.
          let e = one_end first r.0 a (subst (λ s. ends_in first s ≡ true) p.2 ends) (subst (λ s. ends_in r.0 s ≡ true) (q.2 ∙ sym same) r.2.1) in
          let low = r.1 in omega arith)

pub classes_are_all : ClassesAreAll
classes_are_all baskets minimum classes below lists = record {
  distinct = all_distinct baskets minimum 0 classes from_zero;
  sound = All-from_recursion (IsOfFrequent baskets minimum) (all baskets minimum classes) (All-from_Member (IsOfFrequent baskets minimum) (all baskets minimum classes)
      (λ c m. let r = from_all baskets minimum 0 classes from_zero c m in (r.2.0, r.2.2, r.2.3)));
  complete = λ set n h.
      let e = some_end set n.1 in
      let receipt = in_items baskets set (at_least_one minimum (support_of baskets set) (total_of baskets) h) e.0 (Member-end e.0 set e.1) in
      let here = below e.0 (Contains-from_Member e.0 (flat_map (λ receipt. receipt.basket) baskets) receipt) in
      Contains-from_Member (counted baskets set) (all baskets minimum classes)
      (into_all baskets minimum 0 classes from_zero e.0 here set n (subst (λ rank. ends_in rank set ≡ true) (omega arith) e.1) h);
}
  where
    from_zero : ListFrom baskets minimum 0 classes
    from_zero k here = subst (λ rank. ListsClass baskets minimum rank (get_or classes k [])) (omega arith) (lists k here)

-- ---- coded baskets

pub ranks_below : (items : List ℕ) (receipts : List Weighted) → AllByRecursion (IsCodedBasket items) receipts → (rank : ℕ) → Member rank (flat_map (λ receipt. receipt.basket) receipts) → rank < length items
ranks_below items [] coded rank m = absurd m
ranks_below items (receipt ∷ receipts) coded rank m = elim (Member-append rank receipt.basket (flat_map (λ p. p.basket) receipts) m) [
  | inl here ↦ coded.0.1 rank (has-from_Member receipt.basket rank here)
  | inr later ↦ ranks_below items receipts coded.1 rank later
]

-- ---- the class as a part of the frequent list

pub classes_are_listed : ClassesAreListed
classes_are_listed baskets minimum rank =
    let lists = frequent_once baskets minimum in
    let ends : Counted → Bool = λ c. ends_in rank c.set in
    record {
      distinct = distinct-filter (pointwise nat_eq) (λ (c : Counted). c.set) ends (frequent_of baskets minimum) lists.distinct;
      sound = All-from_recursion (IsOfRank baskets minimum rank) (class_of baskets minimum rank) (All-from_Member (IsOfRank baskets minimum rank) (class_of baskets minimum rank) (λ c m.
          let q = Member-filter ends c (frequent_of baskets minimum) m in
          let s = at_Member (IsOfFrequent baskets minimum) c (frequent_of baskets minimum) (recursion_from_All (IsOfFrequent baskets minimum) (frequent_of baskets minimum) lists.sound) q.0 in
          (s.0, q.1, s.1, s.2)));
      complete = λ set n last h. Contains-from_Member (counted baskets set) (class_of baskets minimum rank)
          (Member-from_filter ends (counted baskets set) (frequent_of baskets minimum)
          (Member-from_Contains (counted baskets set) (frequent_of baskets minimum) (lists.complete set n h)) last);
    }
