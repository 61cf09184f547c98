-- How many sets of a class pass a test, and how many of all classes.
use Rattle.std.proofs.Common.{◌≡◌, ◌≢◌, ℕ, ◌<◌, Bool, true, List, [], ◌∷◌, cond, eqb, filter, length, refl, sym, ap, ◌∙◌, subst}
use Rattle.std.specs.Prelude.{nat_eq}
use Rattle.std.specs.Cmp.Lexicographic.{pointwise, bytes_decides, nat_list_eq_equiv}
use Rattle.std.specs.List.{All, list_any, range_with_len, sum_by}
use Rattle.std.proofs.lemmas.Bool.{eq-eqb}
use Rattle.std.proofs.lemmas.List.{length-map}
use Rattle.std.proofs.lemmas.List.Elements.{All-head, All-tail, All-weaker, recursion_from_All}
use Rattle.std.proofs.lemmas.List.Sums.{length-filter}
use Rattle.std.proofs.lemmas.Map.Made.{length-from_same_keys}
use Rattle.std.proofs.lemmas.Map.Views.{Contains-from_any, list_any-from_Contains}
use Rattle.basket_ranks.specs.Codes.{Coding, IsCoding, frequent_of_coding}
use Rattle.basket_ranks.proofs.theory.Decoding.{as_many, ranks_below}
use Rattle.basket_sets.specs.declared.weighted.Weighted.{Weighted}
use Rattle.basket_sets.specs.declared.counted.Counted.{Counted}
use Rattle.basket_sets.specs.declared.minimum.Minimum.{Minimum}
use Rattle.basket_sets.specs.Frequent.{IsNonemptySet, counted, frequent_of, is_frequent}
use Rattle.basket_sets.specs.Support.{support_of}
use Rattle.basket_sets.proofs.theory.Frequent.{frequent_once}
use Rattle.basket_sets.proofs.theory.Members.{Member, Contains-from_Member, Member-filter, Member-from_Contains, Member-from_filter, Member-map, at_Member}
use Rattle.basket_sets.proofs.theory.Merging.{sum_by-same}
use Rattle.basket_sets.proofs.theory.Rising.{has-from_Member, same_test}
use Rattle.mine_classes.specs.Classes.{ListsClass, class_of, ends_in}
use Rattle.mine_classes.specs.Mined.{ClassesAddUp, class_size}
use Rattle.mine_classes.proofs.theory.Greatest.{Member-end, Member-sets, sets}
use Rattle.mine_classes.proofs.theory.Lists.{distinct-filter, filter_all}
use Rattle.mine_classes.proofs.theory.Sums.{parts_add_up}

-- ---- two lists of a class

-- what a list of a class has
abbrev pub IsOfRank : List Weighted → Minimum → ℕ → Counted → Type 0
IsOfRank baskets minimum rank c = IsNonemptySet c.set × (ends_in rank c.set ≡ true) × (is_frequent baskets minimum c.set ≡ true) × (c.count ≡ support_of baskets c.set)

module _ (test : List ℕ → Bool) (baskets : List Weighted) (minimum : Minimum) (rank : ℕ) where
  abbrev passed : List Counted → List Counted
  passed list = filter (λ c. test c.set) list

  still_passed : (one other : List Counted) → ListsClass baskets minimum rank one → ListsClass baskets minimum rank other → (set : List ℕ)
      → list_any (pointwise nat_eq set) (sets (passed one)) ≡ true → list_any (pointwise nat_eq set) (sets (passed other)) ≡ true
  still_passed one other a b set h =
      let (c, m, is) = Member-sets set (passed one) (Member-from_Contains set (sets (passed one)) (Contains-from_any (λ x y e. (bytes_decides x y).0 e) set (sets (passed one)) h)) in
      let passes = Member-filter (λ (d : Counted). test d.set) c one m in
      let s = at_Member (IsOfRank baskets minimum rank) c one (recursion_from_All (IsOfRank baskets minimum rank) one a.sound) passes.0 in
      let there = Member-from_filter (λ (d : Counted). test d.set) (counted baskets c.set) other (Member-from_Contains (counted baskets c.set) other (b.complete c.set s.0 s.1 s.2)) passes.1 in
      list_any-from_Contains nat_list_eq_equiv set (sets (passed other))
      (Contains-from_Member set (sets (passed other)) (subst (λ z. Member z (sets (passed other))) is (Member-map (λ (d : Counted). d.set) (counted baskets c.set) (passed other) there)))

  -- as many of their sets pass a test
  pub as_many_pass : (one other : List Counted) → ListsClass baskets minimum rank one → ListsClass baskets minimum rank other → length (passed one) ≡ length (passed other)
  as_many_pass one other a b =
      let apart = λ (list : List Counted) (lists : ListsClass baskets minimum rank list). distinct-filter (pointwise nat_eq) (λ (c : Counted). c.set) (λ c. test c.set) list lists.distinct in
      sym (length-map (passed one) (λ (c : Counted). c.set))
      ∙ length-from_same_keys nat_list_eq_equiv (sets (passed one)) (sets (passed other)) (apart one a) (apart other b) (λ set. same_test _ _ (still_passed one other a b set) (still_passed other one b a set))
      ∙ length-map (passed other) (λ (c : Counted). c.set)

-- ---- all classes

last_of : List ℕ → ℕ
last_of [] = 0
last_of (first ∷ []) = first
last_of (first ∷ second ∷ others) = last_of (second ∷ others)

ends_last : (rank : ℕ) (set : List ℕ) → set ≢ [] → ends_in rank set ≡ eqb (last_of set) rank
unfolding last_of
ends_last rank [] some = absurd (some refl)
ends_last rank (first ∷ []) some = refl
ends_last rank (first ∷ second ∷ others) some = ends_last rank (second ∷ others) (λ e. cc)

same_parts : (rank : ℕ) (list : List Counted) → All (λ c. c.set ≢ []) list → filter (λ c. ends_in rank c.set) list ≡ filter (λ c. eqb (last_of c.set) rank) list
same_parts rank [] all = refl
same_parts rank (c ∷ list) all =
    let ends : Counted → Bool = λ c. ends_in rank c.set in
    ap (λ b. cond b (c ∷ filter ends list) (filter ends list)) (ends_last rank c.set (All-head (λ (c : Counted). c.set ≢ []) c list all))
    ∙ ap (λ l. cond (eqb (last_of c.set) rank) (c ∷ l) l) (same_parts rank list (All-tail (λ (c : Counted). c.set ≢ []) c list all))

pub classes_add_up : ClassesAddUp
classes_add_up coding test is =
    let list = frequent_of coding.baskets coding.minimum in
    let ranks = range_with_len 0 (length coding.items) in
    let one : Counted → ℕ = λ c. cond (test c) 1 0 in
    let Sound : Counted → Type 0 = λ c. IsNonemptySet c.set × (is_frequent coding.baskets coding.minimum c.set ≡ true) × (c.count ≡ support_of coding.baskets c.set) in
    let sound : All Sound list = (frequent_once coding.baskets coding.minimum).sound in
    sum_by-same (λ rank. length (filter test (class_of coding.baskets coding.minimum rank))) (λ rank. sum_by one (filter (λ c. eqb (last_of c.set) rank) list)) ranks
    (λ rank. length-filter test (class_of coding.baskets coding.minimum rank) ∙ ap (sum_by one) (same_parts rank list (All-weaker Sound (λ c. c.set ≢ []) (λ c s. s.0.1) list sound)))
    ∙ parts_add_up one (λ c. last_of c.set) (length coding.items) list
    (All-weaker Sound (λ c. last_of c.set < length coding.items)
    (λ c s. ranks_below coding is c.set s.1 (last_of c.set) (has-from_Member c.set (last_of c.set) (Member-end (last_of c.set) c.set (ends_last (last_of c.set) c.set s.0.1 ∙ eq-eqb (last_of c.set) (last_of c.set) refl)))) list sound)
    ∙ sym (length-filter test list)

-- the sizes of all classes add up to the number of frequent sets
pub class_sizes_add_up : (coding : Coding) → IsCoding coding → sum_by (class_size coding) (range_with_len 0 (length coding.items)) ≡ length (frequent_of_coding coding)
class_sizes_add_up coding is =
    let baskets = coding.baskets in
    sum_by-same (class_size coding) (λ rank. length (filter (λ c. true) (class_of baskets coding.minimum rank))) (range_with_len 0 (length coding.items)) (λ rank. ap length (sym (filter_all (class_of baskets coding.minimum rank))))
    ∙ classes_add_up coding (λ c. true) is ∙ ap length (filter_all (frequent_of baskets coding.minimum)) ∙ sym (as_many coding is)
