-- A frequent set of many items has many subsets, which are all frequent.
use Rattle.std.proofs.Common.{◌≡◌, ℕ, ◌+◌, ◌*◌, ◌^◌, ◌<◌, List, [], ◌∷◌, length, map, refl, ap, ◌∙◌, arith, zero, suc}
use Rattle.std.proofs.lemmas.Grind.{common_steps}
use Rattle.std.specs.Cmp.Lexicographic.{bytes_decides}
use Rattle.std.proofs.lemmas.Cmp.{eq_by_cmp_equiv}
use Rattle.std.proofs.Math.Nat.{pow-succ'}
use Rattle.std.proofs.lemmas.List.{length-append, length-map}
use Rattle.std.proofs.lemmas.List.Elements.{recursion_from_All}
use Rattle.std.proofs.lemmas.Map.Keys.{IsDistinct-from_sorted}
use Rattle.std.proofs.lemmas.Map.Made.{length-le_from_is_member}
use Rattle.std.proofs.lemmas.Map.Views.{list_any-from_Contains, Contains-from_any}
use Rattle.basket_sets.specs.declared.counted.Counted.{Counted}
use Rattle.basket_ranks.specs.Depth.{DeepSetsAreMany}
use Rattle.basket_sets.specs.Frequent.{counted, frequent_of}
use Rattle.basket_sets.specs.Order.{report_order, report_order_total, report_order_ties}
use Rattle.basket_sets.specs.Subsets.{subsets_of_size, subsets_up_to, subsets_of}
use Rattle.basket_sets.proofs.theory.Frequent.{IsSound, lists_frequent}
use Rattle.basket_sets.proofs.theory.Members.{at_Member, Member-map, Member-from_Contains, Contains-from_Member}
use Rattle.basket_sets.proofs.theory.Rising.{contains_each}
use Rattle.basket_sets.proofs.theory.Subsets.{subsets_sorted, subset_from_Member}
use Rattle.basket_sets.proofs.theory.Support.{subsets_are_frequent}

-- ---- how many subsets a set has

of_size : ℕ → List ℕ → ℕ
of_size size items = length (subsets_of_size size items)

up_to : ℕ → List ℕ → ℕ
up_to most items = length (subsets_up_to most items)

up_to-suc : (most : ℕ) (items : List ℕ) → up_to (suc most) items ≡ up_to most items + of_size (suc most) items
unfolding of_size up_to
up_to-suc most items = length-append (subsets_up_to most items) (subsets_of_size (suc most) items)

none_larger : (size : ℕ) (items : List ℕ) → length items < size → of_size size items ≡ 0
unfolding of_size
none_larger zero items h = absurd (omega arith)
none_larger (suc size) [] h = refl
none_larger (suc size) (x ∷ items) h = grind (arith, common_steps, none_larger size items (omega arith), none_larger (suc size) items (omega arith))

up_to-cons : (most x : ℕ) (items : List ℕ) → up_to (suc most) (x ∷ items) ≡ up_to (suc most) items + up_to most items + 1
unfolding of_size up_to
up_to-cons zero x items = grind (arith, common_steps)
up_to-cons (suc most) x items = grind (arith, common_steps, up_to-cons most x items)

all_subsets : (items : List ℕ) → up_to (length items) items + 1 ≡ 2 ^ length items
unfolding of_size up_to
all_subsets [] = refl
all_subsets (x ∷ items) =
    let a = up_to-cons (length items) x items in let b = up_to-suc (length items) items in let c = none_larger (suc (length items)) items (omega arith) in
    let d = all_subsets items in let e = power (length items) in
    omega (arith, a, b, c, d, e)
  where
    power : (n : ℕ) → 2 ^ suc n ≡ 2 * 2 ^ n
    power n = pow-succ' 2 n

-- ---- they are frequent where the set is

-- where a set of so many items is frequent, so are all its nonempty subsets
pub deep_sets_are_many : DeepSetsAreMany
unfolding up_to
deep_sets_are_many baskets minimum size (c, here, sized) =
    let sets = map (λ (x : Counted). x.set) (frequent_of baskets minimum) in
    let lists = lists_frequent baskets minimum in
    let sound = at_Member (IsSound baskets minimum) c (frequent_of baskets minimum) (recursion_from_All (IsSound baskets minimum) (frequent_of baskets minimum) lists.sound) (Member-from_Contains c (frequent_of baskets minimum) here) in
    let o = report_order_total in
    let few = length-le_from_is_member (eq_by_cmp_equiv o) (subsets_of c.set) sets (IsDistinct-from_sorted report_order (subsets_of c.set) (subsets_sorted c.set sound.0.0))
    (λ set m. list_any-from_Contains (eq_by_cmp_equiv o) set sets (Contains-from_Member set sets
    (let s = subset_from_Member c.set set sound.0.0 (Member-from_Contains set (subsets_of c.set) (Contains-from_any (λ x y e. (bytes_decides x y).0 (report_order_ties x y ∙ e)) set (subsets_of c.set) m)) in
    Member-map (λ (x : Counted). x.set) (counted baskets set) (frequent_of baskets minimum)
    (Member-from_Contains (counted baskets set) (frequent_of baskets minimum)
    (lists.complete set (s.0, s.1) (subsets_are_frequent baskets minimum c.set set (contains_each c.set set s.2) sound.1)))))) in
    let long = length-map (frequent_of baskets minimum) (λ (x : Counted). x.set) in
    let all = all_subsets c.set in
    let power = ap (λ n. 2 ^ n) sized in
    omega (arith, few, long, all, power)
