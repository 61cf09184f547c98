-- The subsets of a set with one item less are the set without one of its items.
use Rattle.std.proofs.Common.{◌≡◌, ℕ, ◌<◌, Bool, true, ◌&&◌, cond, List, [], ◌∷◌, ◌++◌, filter, flat_map, length, map, refl, sym, ap, ◌∙◌, subst, inl, inr, arith, zero, suc}
use Rattle.std.specs.Cmp.Lexicographic.{bytes_decides, nat_list_eq_equiv}
use Rattle.std.proofs.lemmas.Bool.{cases_lt}
use Rattle.std.proofs.lemmas.Map.Views.{Contains-from_any, list_any-from_Contains}
use Rattle.basket_sets.specs.Subsets.{subsets_of_size}
use Rattle.basket_sets.proofs.theory.Members.{Contains-from_Member, Member, Member-append, Member-append_left, Member-append_right, Member-into_flat_map, Member-map, Member-from_Contains, Member-from_map}
use Rattle.basket_sets.proofs.theory.Rising.{Member-into_rising}
use Rattle.mine_apriori.specs.Candidates.{candidates_of, has_subsets, is_one_of, items_in}
use Rattle.basket_sets.specs.Itemset.{without}
use Rattle.basket_sets.proofs.theory.Tests.{all_of}

pub Member-from_is_one_of : (sets : List (List ℕ)) (set : List ℕ) → is_one_of sets set ≡ true → Member set sets
Member-from_is_one_of sets set h = Member-from_Contains set sets (Contains-from_any (λ x y e. (bytes_decides x y).0 e) set sets h)

pub is_one_of-from_Member : (sets : List (List ℕ)) (set : List ℕ) → Member set sets → is_one_of sets set ≡ true
is_one_of-from_Member sets set m = list_any-from_Contains nat_list_eq_equiv set sets (Contains-from_Member set sets m)

-- ---- indexes and subsets

-- what is larger than a list has no subset of it, and what is as large has one
pub none_larger : (size : ℕ) (items : List ℕ) → length items < size → subsets_of_size size items ≡ []
none_larger zero items h = absurd (omega arith)
none_larger (suc size) [] h = refl
none_larger (suc size) (x ∷ items) h = (λ i. map (λ s. x ∷ s) (none_larger size items (omega arith) i) ++ none_larger (suc size) items (omega arith) i)

only_whole : (size : ℕ) (items : List ℕ) → length items ≡ size → subsets_of_size size items ≡ items ∷ []
only_whole zero [] e = refl
only_whole zero (x ∷ items) e = absurd (omega (arith, e))
only_whole (suc size) [] e = absurd (omega (arith, e))
only_whole (suc size) (x ∷ items) e = (λ i. map (λ s. x ∷ s) (only_whole size items (omega (arith, e)) i) ++ none_larger (suc size) items (omega (arith, e)) i)

pub Member-without : (size index : ℕ) (items : List ℕ) → length items ≡ suc size → index < suc size → Member (without index items) (subsets_of_size size items)
Member-without size index [] e below = absurd (omega (arith, e))
Member-without zero zero (x ∷ []) e below = inl refl
Member-without zero zero (x ∷ y ∷ items) e below = absurd (omega (arith, e))
Member-without zero (suc index) (x ∷ items) e below = absurd (omega arith)
Member-without (suc size) zero (x ∷ items) e below =
    Member-append_right items (map (λ s. x ∷ s) (subsets_of_size size items)) (subsets_of_size (suc size) items)
    (subst (Member items) (sym (only_whole (suc size) items (omega (arith, e)))) (inl refl))
Member-without (suc size) (suc index) (x ∷ items) e below =
    Member-append_left (x ∷ without index items) (map (λ s. x ∷ s) (subsets_of_size size items)) (subsets_of_size (suc size) items)
    (Member-map (λ s. x ∷ s) (without index items) (subsets_of_size size items) (Member-without size index items (omega (arith, e)) (omega arith)))

pub index_of_Member : (size : ℕ) (items set : List ℕ) → length items ≡ suc size → Member set (subsets_of_size size items)
    → (index : ℕ) × (index < suc size) × (without index items ≡ set)
index_of_Member size [] set e m = absurd (omega (arith, e))
index_of_Member zero (x ∷ []) set e (inl is) = (0, omega arith, is)
index_of_Member zero (x ∷ []) set e (inr m) = absurd m
index_of_Member zero (x ∷ y ∷ items) set e m = absurd (omega (arith, e))
index_of_Member (suc size) (x ∷ items) set e m = elim (Member-append set (map (λ s. x ∷ s) (subsets_of_size size items)) (subsets_of_size (suc size) items) m) [
  | inl n ↦ (let p = Member-from_map (λ s. x ∷ s) set (subsets_of_size size items) n in
      let q = index_of_Member size items p.0 (omega (arith, e)) p.1 in
      (suc q.0, omega (arith, q.1), ap (λ l. x ∷ l) q.2 ∙ p.2))
  | inr n ↦ elim (subst (Member set) (only_whole (suc size) items (omega (arith, e))) n) [ inl is ↦ (0, omega arith, is) | inr none ↦ absurd none ]
]

-- ---- the prune

-- each index was looked up, the last two before the others
pub has_all : (last : ℕ) (sets : List (List ℕ)) (set : List ℕ) → length set ≡ suc (suc last) → is_one_of sets (without (suc last) set) ≡ true → is_one_of sets (without last set) ≡ true
    → ((index : ℕ) → index < last → is_one_of sets (without index set) ≡ true) → has_subsets (suc last) sets set ≡ true
has_all last sets set long first second each = all_of (is_one_of sets) (subsets_of_size (suc last) set)
    (λ subset m. let p = index_of_Member (suc last) set subset long m in subst (λ s. is_one_of sets s ≡ true) p.2 (at p.0 p.1))
  where
    at : (index : ℕ) → index < suc (suc last) → is_one_of sets (without index set) ≡ true
    at index below = elim (cases_lt index last) [
      | inl less ↦ each index less
      | inr more ↦ elim (cases_lt index (suc last)) [
        | inl less ↦ (let e : last ≡ index = omega arith in subst (λ p. is_one_of sets (without p set) ≡ true) e second)
        | inr most ↦ (let e : suc last ≡ index = omega arith in subst (λ p. is_one_of sets (without p set) ≡ true) e first)
      ]
    ]

-- ---- what a filter keeps

module _ {X : Type 0} where
  and_step : (x : X) (rest : List X) (q : X → Bool) (a : Bool) → filter q (cond a (x ∷ rest) rest) ≡ cond (a && q x) (x ∷ filter q rest) (filter q rest)
  and_step x rest q a = grind arith

  -- a filter of what another keeps
  pub filter_both : (p q : X → Bool) (xs : List X) → filter q (filter p xs) ≡ filter (λ x. p x && q x) xs
  filter_both p q [] = refl
  filter_both p q (x ∷ xs) = and_step x (filter p xs) q (p x) ∙ ap (λ l. cond (p x && q x) (x ∷ l) l) (filter_both p q xs)

-- ---- the items of sets

pub in_items : (sets : List (List ℕ)) (set : List ℕ) (item : ℕ) → Member set sets → Member item set → Member item (items_in sets)
in_items sets set item m n = Member-into_rising (flat_map (λ s. s) sets) item (Member-into_flat_map (λ s. s) item set sets m n)

-- the candidates where the size is known
abbrev pub of_size : ℕ → List (List ℕ) → List (List ℕ)
of_size size sets = filter (has_subsets size sets) (subsets_of_size (suc size) (items_in sets))

pub of_size_is : (size : ℕ) (first : List ℕ) (others : List (List ℕ)) → length first ≡ size → candidates_of (first ∷ others) ≡ of_size size (first ∷ others)
of_size_is size first others e = ap (λ n. of_size n (first ∷ others)) e
