-- Lists of sets without equal ones.
use Rattle.std.proofs.Common.{◌≡◌, ◌≢◌, ℕ, Bool, true, false, List, [], ◌∷◌, ◌++◌, cond, filter, map, refl, ap, inl, inr, arith}
use Rattle.std.proofs.lemmas.Grind.{common_steps}
use Rattle.std.specs.Prelude.{nat_eq}
use Rattle.std.specs.Cmp.Lexicographic.{pointwise, bytes_decides}
use Rattle.std.specs.List.{IsDistinct}
use Rattle.std.proofs.lemmas.Bool.{cases_Bool}
use Rattle.basket_sets.proofs.theory.Members.{Member, All-from_Member, at_Member, Member-append, Member-filter, Member-from_map, Member-map}

pub apart : (a b : List ℕ) → a ≢ b → pointwise nat_eq a b ≡ false
apart a b differ = elim (cases_Bool (pointwise nat_eq a b)) [ inl e ↦ absurd (differ ((bytes_decides a b).0 e)) | inr e ↦ e ]

-- lists without equal elements, none of which is in both
pub distinct-append : {K : Type 0} (R : K → K → Bool) (xs ys : List K) → IsDistinct R xs → IsDistinct R ys
    → ((x y : K) → Member x xs → Member y ys → R x y ≡ false) → IsDistinct R (xs ++ ys)
unfolding IsDistinct
distinct-append R [] ys a b across = b
distinct-append R (x ∷ xs) ys a b across = (
  All-from_Member (λ y. R x y ≡ false) (xs ++ ys)
      (λ y m. elim (Member-append y xs ys m) [ inl n ↦ at_Member (λ z. R x z ≡ false) y xs a.0 n | inr n ↦ across x y (inl refl) n ]),
  distinct-append R xs ys a.1 b (λ u v m n. across u v (inr m) n),
)

-- a part of a list without equal elements has none
distinct_at : {K J : Type 0} (R : J → J → Bool) (f : K → J) (p : K → Bool) (x : K) (xs : List K) (b : Bool) → IsDistinct R (map f (x ∷ xs)) → IsDistinct R (map f (filter p xs))
    → IsDistinct R (map f (cond b (x ∷ filter p xs) (filter p xs)))
unfolding IsDistinct
distinct_at h1 h2 h3 h4 h5 h6 h7 h8 = grind (arith, common_steps, All-from_Member, Member-from_map, at_Member, Member-map, Member-filter)

pub distinct-filter : {K J : Type 0} (R : J → J → Bool) (f : K → J) (p : K → Bool) (xs : List K) → IsDistinct R (map f xs) → IsDistinct R (map f (filter p xs))
unfolding IsDistinct
distinct-filter R f p [] distinct = tt
distinct-filter R f p (x ∷ xs) distinct = distinct_at R f p x xs (p x) distinct (distinct-filter R f p xs distinct.1)

pub filter_all : {K : Type 0} (xs : List K) → filter (λ x. true) xs ≡ xs
filter_all [] = refl
filter_all (x ∷ xs) = ap (λ l. x ∷ l) (filter_all xs)
