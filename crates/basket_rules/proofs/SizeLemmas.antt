-- The consequents of a union are its subsets of all sizes but its own, and no list has the subsets of a very large set.
use Rattle.std.proofs.Common.{◌≡◌, ℕ, ◌+◌, ◌-◌, ◌<◌, ◌≤◌, ◌^◌, Bool, true, false, cond, ltb, List, [], ◌∷◌, ◌++◌, length, get_or, map, filter, refl, sym, ap, ◌∙◌, subst, inl, inr, arith, suc}
use Rattle.std.proofs.lemmas.Grind.{common_steps}
use Rattle.std.specs.Cmp.Lexicographic.{bytes_decides}
use Rattle.std.proofs.lemmas.Bool.{lt-ltb, le-ltb}
use Rattle.std.proofs.lemmas.Cmp.{eq_by_cmp_equiv}
use Rattle.std.proofs.lemmas.List.{append-nil, length-map}
use Rattle.std.proofs.lemmas.List.Elements.{filter-append}
use Rattle.std.proofs.lemmas.Map.Keys.{IsDistinct-from_sorted}
use Rattle.std.proofs.lemmas.Map.Made.{length-le_from_is_member}
use Rattle.std.proofs.lemmas.Map.Views.{list_any-from_Contains, Contains-from_any}
use Rattle.std.proofs.Math.Pow.{pow_mono}
use Rattle.basket_ranks.proofs.theory.Depth.{deep_sets_are_many}
use Rattle.basket_sets.specs.declared.counted.Counted.{Counted}
use Rattle.basket_sets.specs.declared.minimum.Minimum.TheVariants.{Count}
use Rattle.basket_sets.specs.Database.{weighted}
use Rattle.basket_sets.specs.Frequent.{is_frequent, counted, frequent_of}
use Rattle.basket_sets.specs.Itemset.{IsRising}
use Rattle.basket_sets.specs.Minimum.{meets}
use Rattle.basket_sets.specs.Order.{report_order, report_order_total, report_order_ties}
use Rattle.basket_sets.specs.Subsets.{subsets_of_size, subsets_up_to}
use Rattle.basket_sets.specs.Support.{support_of, total_of, all_items}
use Rattle.basket_sets.proofs.theory.Frequent.{lists_frequent}
use Rattle.basket_sets.proofs.theory.Items.{filter_all, filter_none}
use Rattle.basket_sets.proofs.theory.Members.{Member, Member-append, Member-map, Member-from_map, Member-from_Contains, Contains-from_Member}
use Rattle.basket_sets.proofs.theory.Rising.{contains-refl, contains_each, Member-rising}
use Rattle.basket_sets.proofs.theory.Subsets.{IsSubset-from_Member, size_of_Member}
use Rattle.basket_sets.proofs.theory.Support.{frequent_items, support-cons}
use Rattle.basket_rules.specs.declared.consequents.TheConstants.{MOST_BITS}
use Rattle.basket_rules.specs.Consistency.{IsConsistent}
use Rattle.basket_rules.specs.Listed.{sets_in, set_at}
use Rattle.basket_rules.specs.Rules.{consequents_of}
use Rattle.basket_rules.proofs.SearchLemmas.{none, set_is, entry_listed}
use Rattle.basket_rules.proofs.theory.Consistency.{sound_of, set_nonempty, subset_stands}

-- ---- subsets up to a size

-- what is made of the subsets that pass a test: of those up to a size, and of that size
pub joined : {X : Type 0} (made : List ℕ → X) (p : List ℕ → Bool) (union : List ℕ) (size : ℕ) → 1 ≤ size
    → map made (filter p (subsets_up_to (size - 1) union)) ++ map made (filter p (subsets_of_size size union)) ≡ map made (filter p (subsets_up_to size union))
joined h1 h2 h3 h4 h5 = grind (arith, common_steps)

-- ---- consequents

pub consequents_are : (union : List ℕ) → IsRising union → consequents_of union ≡ subsets_up_to (length union - 1) union
consequents_are [] up = refl
consequents_are (x ∷ items) up =
    let union = x ∷ items in
    let p = λ (consequent : List ℕ). ltb (length consequent) (length union) in
    let same : length items ≡ suc (length items) - 1 = omega arith in
    filter-append p (subsets_up_to (length items) union) (subsets_of_size (suc (length items)) union)
    ∙ (λ i. filter_all p (subsets_up_to (length items) union) smaller i ++ filter_none p (subsets_of_size (suc (length items)) union) whole i)
    ∙ append-nil (subsets_up_to (length items) union)
    ∙ ap (λ n. subsets_up_to n union) same
  where
    smaller : (consequent : List ℕ) → Member consequent (subsets_up_to (length items) (x ∷ items)) → ltb (length consequent) (suc (length items)) ≡ true
    smaller consequent m = let s = size_of_Member (length items) (x ∷ items) consequent up m in
        lt-ltb (length consequent) (suc (length items)) (let k = s.1 in let n = s.2.sized in omega arith)

    whole : (consequent : List ℕ) → Member consequent (subsets_of_size (suc (length items)) (x ∷ items)) → ltb (length consequent) (suc (length items)) ≡ false
    whole consequent m = let s = IsSubset-from_Member (suc (length items)) (x ∷ items) consequent up m in
        le-ltb (length consequent) (suc (length items)) (let n = s.sized in omega arith)

-- ---- no larger unions

module _ (list : List Counted) (consistent : IsConsistent list) (number : ℕ) (below : number < length list) where
  -- in a database with the set as its only basket, the set has support 1
  own_support : support_of (weighted (set_at list number) 1 ∷ []) (set_at list number) ≡ 1
  own_support = support-cons (weighted (set_at list number) 1) [] (set_at list number) ∙ ap (λ b. cond b 1 0 + 0) (contains-refl (set_at list number))

  -- its frequent sets are subsets of the set, so the list has them
  listed_alone : (set : List ℕ) → Member set (sets_in (frequent_of (weighted (set_at list number) 1 ∷ []) (Count 1))) → Member set (sets_in list)
  listed_alone set m =
      let whole = set_at list number in
      let baskets = weighted whole 1 ∷ [] in
      let c = Member-from_map (λ (x : Counted). x.set) set (frequent_of baskets (Count 1)) m in
      let sound = sound_of baskets (Count 1) c.0 c.1 in
      let held = contains_each whole c.0.set (λ item n. elim (Member-append item whole [] (Member-rising (all_items baskets) item (frequent_items baskets (Count 1) c.0.set sound.1 item n))) [ inl h ↦ h | inr h ↦ absurd h ]) in
      let s = subset_stands list consistent number c.0.set below sound.0 held in
      subst (λ t. Member t (sets_in list)) (sym (set_is list s.index none s.listed) ∙ s.is ∙ c.2) (Member-map (λ (x : Counted). x.set) (get_or list s.index none) list (entry_listed list s.index s.listed))

  many_sets : 2 ^ length (set_at list number) ≤ length list + 1
  many_sets =
      let whole = set_at list number in
      let baskets = weighted whole 1 ∷ [] in
      let sets = sets_in (frequent_of baskets (Count 1)) in
      let lists = lists_frequent baskets (Count 1) in
      let o = report_order_total in
      let often : is_frequent baskets (Count 1) whole ≡ true = ap (λ n. meets (Count 1) n (total_of baskets)) own_support in
      let many = deep_sets_are_many baskets (Count 1) (length whole) (counted baskets whole, lists.complete whole (set_nonempty list consistent number below) often, refl) in
      let few = length-le_from_is_member (eq_by_cmp_equiv o) sets (sets_in list) (IsDistinct-from_sorted report_order sets lists.in_order)
      (λ set m. list_any-from_Contains (eq_by_cmp_equiv o) set (sets_in list) (Contains-from_Member set (sets_in list)
      (listed_alone set (Member-from_Contains set sets (Contains-from_any (λ x y e. (bytes_decides x y).0 (report_order_ties x y ∙ e)) set sets m))))) in
      let long = length-map list (λ (x : Counted). x.set) in
      let other = length-map (frequent_of baskets (Count 1)) (λ (x : Counted). x.set) in
      omega (arith, many, few, long, other)

  pub none_so_large : length list < 2 ^ 64 → MOST_BITS < length (set_at list number) → ⊥
  none_so_large fits deep =
      let many = many_sets in
      let grows : 2 ^ 65 ≤ 2 ^ length (set_at list number) = pow_mono {i = 65} {j = length (set_at list number)} (omega (arith, deep)) in
      omega (arith, many, grows, fits)
