-- The greatest rank of a set, and the class of a rank that is not frequent.
use Rattle.std.proofs.Common.{◌≡◌, ◌≢◌, ℕ, true, List, [], ◌∷◌, ◌++◌, eqb, map, refl, sym, ap, ◌∙◌, subst, inl, inr}
use Rattle.std.specs.List.{IsDistinct}
use Rattle.std.proofs.lemmas.Bool.{eqb-true, eq-eqb, true≢false}
use Rattle.std.proofs.lemmas.List.Elements.{All-from_recursion}
use Rattle.basket_sets.specs.declared.counted.Counted.{Counted}
use Rattle.basket_sets.specs.Frequent.{IsNonemptySet, is_frequent}
use Rattle.basket_sets.specs.Support.{support_of}
use Rattle.basket_sets.proofs.theory.Members.{Member, Member-append_right, Member-from_map}
use Rattle.basket_sets.proofs.theory.Rising.{contains_each}
use Rattle.basket_sets.proofs.theory.Support.{subsets_are_frequent}
use Rattle.mine_classes.specs.Classes.{ends_in, RareRanksHaveNoClass}

-- ---- the greatest rank of a set

pub front_of : (rank : ℕ) (set : List ℕ) → ends_in rank set ≡ true → (front : List ℕ) × (set ≡ front ++ rank ∷ [])
front_of rank [] h = absurd (true≢false (sym h))
front_of rank (x ∷ []) h = ([], ap (λ r. r ∷ []) (eqb-true x rank h))
front_of rank (x ∷ y ∷ set) h = let p = front_of rank (y ∷ set) h in (x ∷ p.0, ap (λ s. x ∷ s) p.1)

-- a list ends in what was pushed
pub ends_push : (rank r : ℕ) (path : List ℕ) → ends_in rank (path ++ r ∷ []) ≡ eqb r rank
ends_push rank r [] = refl
ends_push rank r (x ∷ []) = refl
ends_push rank r (x ∷ y ∷ path) = ends_push rank r (y ∷ path)

pub one_end : (a b : ℕ) (set : List ℕ) → ends_in a set ≡ true → ends_in b set ≡ true → a ≡ b
one_end a b [] h k = absurd (true≢false (sym h))
one_end a b (x ∷ []) h k = sym (eqb-true x a h) ∙ eqb-true x b k
one_end a b (x ∷ y ∷ set) h k = one_end a b (y ∷ set) h k

pub some_end : (set : List ℕ) → set ≢ [] → (rank : ℕ) × (ends_in rank set ≡ true)
some_end [] some = absurd (some refl)
some_end (x ∷ []) some = (x, eq-eqb x x refl)
some_end (x ∷ y ∷ set) some = some_end (y ∷ set) (λ e. cc)

pub Member-end : (rank : ℕ) (set : List ℕ) → ends_in rank set ≡ true → Member rank set
Member-end rank set h = let p = front_of rank set h in subst (Member rank) (sym p.1) (Member-append_right rank p.0 (rank ∷ []) (inl refl))

abbrev pub sets : List Counted → List (List ℕ)
sets list = map (λ c. c.set) list

pub Member-sets : (set : List ℕ) (list : List Counted) → Member set (sets list) → (c : Counted) × Member c list × (c.set ≡ set)
Member-sets set list m = Member-from_map (λ (c : Counted). c.set) set list m

pub rare_ranks_have_no_class : RareRanksHaveNoClass
unfolding IsDistinct
rare_ranks_have_no_class baskets minimum rank rare = record {
  distinct = tt;
  sound = All-from_recursion (λ (c : Counted). IsNonemptySet c.set × (ends_in rank c.set ≡ true) × (is_frequent baskets minimum c.set ≡ true) × (c.count ≡ support_of baskets c.set)) [] tt;
  complete = λ set n ends h. absurd (true≢false (sym (subsets_are_frequent baskets minimum set (rank ∷ []) (contains_each set (rank ∷ []) (only set ends)) h) ∙ rare));
}
  where
    only : (set : List ℕ) → ends_in rank set ≡ true → (item : ℕ) → Member item (rank ∷ []) → Member item set
    only set ends item (inl e) = subst (λ y. Member y set) e (Member-end rank set ends)
    only set ends item (inr m) = absurd m
