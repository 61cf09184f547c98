-- Supports in a conditional database.
use Rattle.std.proofs.Common.{◌≡◌, ℕ, ◌+◌, Bool, true, false, ◌&&◌, List, [], ◌∷◌, ◌++◌, ◌≤◌, cond, sym, ◌∙◌, arith}
use Rattle.std.proofs.lemmas.Grind.{common_steps}
use Rattle.std.specs.List.{filter, flat_map, list_all}
use Rattle.std.proofs.lemmas.Bool.{and_parts, and_from}
use Rattle.std.proofs.lemmas.List.Folds.{list_all-append}
use Rattle.basket_sets.specs.declared.weighted.Weighted.{Weighted}
use Rattle.basket_sets.specs.Itemset.{has, contains}
use Rattle.basket_sets.specs.Support.{weight_at, support_of}
use Rattle.basket_sets.proofs.theory.Members.{Member-filter, Member-from_filter}
use Rattle.basket_sets.proofs.theory.Rising.{has_each, contains_each}
use Rattle.basket_sets.proofs.theory.Support.{support-append, support-cons, support_falls}
use Rattle.basket_sets.proofs.theory.Tests.{all_of, cond_sum, each_of, same_cond}
use Rattle.mine_classes.specs.Conditional.{is_kept, kept_basket, ConditionalSupports}

-- ---- tests

pub same_tests : (a b : Bool) → (a ≡ true → b ≡ true) → (b ≡ true → a ≡ true) → a ≡ b
same_tests h1 h2 h3 h4 = grind (arith, common_steps)

both : (a b : Bool) (weight : ℕ) → cond (a && b) weight 0 ≡ cond a (cond b weight 0) 0
both h1 h2 h3 = grind (arith, common_steps)

and_last : (a b : Bool) → (a && (b && true)) ≡ (a && b)
and_last h1 h2 = grind (arith, common_steps)

and_none : (a : Bool) → (a && false) ≡ false
and_none h1 = grind (arith, common_steps)

and_every : (a : Bool) → (a && true) ≡ a
and_every h1 = grind (arith, common_steps)

-- ---- supports

-- a basket that is kept to some ranks contains a set exactly where it does and the set has only such ranks
contains-filter : (keeps : ℕ → Bool) (basket set : List ℕ) → contains (filter keeps basket) set ≡ (list_all keeps set && contains basket set)
contains-filter keeps basket set = same_tests _ _
    (λ h. and_from (list_all keeps set) (contains basket set)
    (all_of keeps set (λ item m. (Member-filter keeps item basket (has_each (filter keeps basket) set h item m)).1))
    (contains_each basket set (λ item m. (Member-filter keeps item basket (has_each (filter keeps basket) set h item m)).0)))
    (λ h. let p = and_parts (list_all keeps set) (contains basket set) h in
    contains_each (filter keeps basket) set (λ item m. Member-from_filter keeps item basket (has_each basket set p.1 item m) (each_of keeps set p.0 item m)))

contains-push : (basket set : List ℕ) (rank : ℕ) → contains basket (set ++ rank ∷ []) ≡ (contains basket set && has basket rank)
contains-push basket set rank = list_all-append (has basket) set (rank ∷ []) ∙ and_last (contains basket set) (has basket rank)

module _ (keeps : ℕ → Bool) (rank : ℕ) (set : List ℕ) where
  weight_kept : (receipt : Weighted) → support_of (kept_basket keeps rank receipt) set ≡ cond (list_all keeps set) (weight_at (set ++ rank ∷ []) receipt) 0
  weight_kept receipt = grind (arith, common_steps, support-cons, contains-filter, both, contains-push, and_every, and_none, same_cond)

  pub kept_support : (baskets : List Weighted) → support_of (flat_map (kept_basket keeps rank) baskets) set ≡ cond (list_all keeps set) (support_of baskets (set ++ rank ∷ [])) 0
  kept_support [] = sym (same_cond (list_all keeps set) 0)
  kept_support (receipt ∷ baskets) = grind (arith, common_steps, kept_support baskets, support-append, weight_kept, cond_sum, support-cons)

pub conditional_supports : ConditionalSupports
conditional_supports baskets least rank set = kept_support (is_kept baskets least rank) rank set baskets

-- a set without one of its items has no smaller support
pub support_with : (baskets : List Weighted) (one other : ℕ) (others : List ℕ) → support_of baskets (other ∷ one ∷ others) ≤ support_of baskets (other ∷ others)
support_with baskets one other others = grind (arith, common_steps, support_falls, contains_each)
