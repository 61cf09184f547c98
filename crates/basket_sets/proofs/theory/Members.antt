-- Membership in a list by recursion, and lists that are strictly sorted by a total order.
use Rattle.std.proofs.Common.{◌≡◌, Bool, true, false, List, [], ◌∷◌, ◌++◌, map, refl, sym, ap, ◌∙◌, subst, inl, inr, ◌⊎◌, arith, zero, suc}
use Rattle.std.proofs.lemmas.Grind.{common_steps}
use Rattle.std.specs.declared.cmp.Ordering.{Ordering}
use Rattle.std.specs.declared.cmp.Ordering.TheVariants.{Less, Greater}
use Rattle.std.specs.Ordering.{ordering_reverse}
use Rattle.std.specs.Cmp.{IsTotalOrder}
use Rattle.std.specs.List.{Contains, AllByRecursion, filter, flat_map}
use Rattle.std.specs.List.Sorted.{IsStrictlySortedBy}
use Rattle.std.proofs.lemmas.Bool.{cond_both}

module _ {K : Type 0} where
  -- x is a member of the list
  abbrev pub Member : K → List K → Type 0
  Member x [] = ⊥
  Member x (y ∷ ys) = (y ≡ x) ⊎ Member x ys

  -- a member of two lists joined is a member of one of them
  pub Member-append : (x : K) (xs ys : List K) → Member x (xs ++ ys) → Member x xs ⊎ Member x ys
  Member-append x [] ys m = inr m
  Member-append x (y ∷ xs) ys (inl e) = inl (inl e)
  Member-append x (y ∷ xs) ys (inr m) = elim (Member-append x xs ys m) [ inl a ↦ inl (inr a) | inr b ↦ inr b ]

  pub Member-append_left : (x : K) (xs ys : List K) → Member x xs → Member x (xs ++ ys)
  Member-append_left x [] ys m = absurd m
  Member-append_left x (y ∷ xs) ys (inl e) = inl e
  Member-append_left x (y ∷ xs) ys (inr m) = inr (Member-append_left x xs ys m)

  pub Member-append_right : (x : K) (xs ys : List K) → Member x ys → Member x (xs ++ ys)
  Member-append_right x [] ys m = m
  Member-append_right x (y ∷ xs) ys m = inr (Member-append_right x xs ys m)

  -- membership by recursion and by an index are the same
  pub Member-from_Contains : (x : K) (xs : List K) → Contains xs x → Member x xs
  Member-from_Contains x [] h = absurd (omega (arith, h.1))
  Member-from_Contains x (y ∷ ys) (zero, below, is) = inl is
  Member-from_Contains x (y ∷ ys) (suc k, below, is) = inr (Member-from_Contains x ys (k, omega arith, is))

  pub Contains-from_Member : (x : K) (xs : List K) → Member x xs → Contains xs x
  Contains-from_Member x [] m = absurd m
  Contains-from_Member x (y ∷ ys) (inl e) = (0, omega arith, e)
  Contains-from_Member x (y ∷ ys) (inr m) = let p = Contains-from_Member x ys m in (suc p.0, omega (arith, p.1), p.2)

  -- what holds of each element holds of a member
  pub at_Member : (P : K → Type 0) (x : K) (xs : List K) → AllByRecursion P xs → Member x xs → P x
  at_Member P x [] h m = absurd m
  at_Member P x (y ∷ ys) h (inl e) = subst P e h.0
  at_Member P x (y ∷ ys) h (inr m) = at_Member P x ys h.1 m

  -- what holds of each member holds of each element
  pub All-from_Member : (P : K → Type 0) (xs : List K) → ((x : K) → Member x xs → P x) → AllByRecursion P xs
  All-from_Member P [] h = tt
  All-from_Member P (y ∷ ys) h = (h y (inl refl), All-from_Member P ys (λ x m. h x (inr m)))

  -- the members of a filtered list are those members that pass
  pub Member-filter : (p : K → Bool) (x : K) (xs : List K) → Member x (filter p xs) → Member x xs × (p x ≡ true)
  Member-filter p x [] m = absurd m
  Member-filter p x (y ∷ ys) m = cond_both (p y) (y ∷ filter p ys) (filter p ys) (λ l. Member x l → Member x (y ∷ ys) × (p x ≡ true))
      (λ e n. elim n [ inl same ↦ (inl same, ap p (sym same) ∙ e) | inr k ↦ (let r = Member-filter p x ys k in (inr r.0, r.1)) ])
      (λ e n. let r = Member-filter p x ys n in (inr r.0, r.1)) m

  pub Member-from_filter : (p : K → Bool) (x : K) (xs : List K) → Member x xs → p x ≡ true → Member x (filter p xs)
  Member-from_filter p x [] m h = absurd m
  Member-from_filter p x (y ∷ ys) m h = cond_both (p y) (y ∷ filter p ys) (filter p ys) (Member x)
      (λ e. elim m [ inl same ↦ inl same | inr n ↦ inr (Member-from_filter p x ys n h) ])
      (λ e. elim m [ inl same ↦ absurd (let no : true ≡ false = sym h ∙ ap p (sym same) ∙ e in cc) | inr n ↦ Member-from_filter p x ys n h ])

-- the members of a list of images are the images
pub Member-map : {K J : Type 0} (f : K → J) (x : K) (xs : List K) → Member x xs → Member (f x) (map f xs)
Member-map f x [] m = absurd m
Member-map f x (y ∷ ys) (inl e) = inl (ap f e)
Member-map f x (y ∷ ys) (inr m) = inr (Member-map f x ys m)

pub Member-from_map : {K J : Type 0} (f : K → J) (y : J) (xs : List K) → Member y (map f xs) → (x : K) × Member x xs × (f x ≡ y)
Member-from_map f y [] m = absurd m
Member-from_map f y (x ∷ xs) (inl e) = (x, inl refl, e)
Member-from_map f y (x ∷ xs) (inr m) = let r = Member-from_map f y xs m in (r.0, inr r.1, r.2)

-- the members of a list of lists put together are those of its lists
pub Member-flat_map : {K J : Type 0} (f : K → List J) (y : J) (xs : List K) → Member y (flat_map f xs) → (x : K) × Member x xs × Member y (f x)
Member-flat_map f y [] m = absurd m
Member-flat_map f y (x ∷ xs) m = elim (Member-append y (f x) (flat_map f xs) m) [
  | inl here ↦ (x, inl refl, here)
  | inr later ↦ (let r = Member-flat_map f y xs later in (r.0, inr r.1, r.2))
]

pub Member-into_flat_map : {K J : Type 0} (f : K → List J) (y : J) (x : K) (xs : List K) → Member x xs → Member y (f x) → Member y (flat_map f xs)
Member-into_flat_map f y x [] m n = absurd m
Member-into_flat_map f y x (z ∷ xs) (inl e) n = Member-append_left y (f z) (flat_map f xs) (subst (λ w. Member y (f w)) (sym e) n)
Member-into_flat_map f y x (z ∷ xs) (inr m) n = Member-append_right y (f z) (flat_map f xs) (Member-into_flat_map f y x xs m n)

-- functions that agree on the members have the same images
pub map_members : {K J : Type 0} (f g : K → J) (xs : List K) → ((x : K) → Member x xs → f x ≡ g x) → map f xs ≡ map g xs
map_members f g [] same = refl
map_members f g (x ∷ xs) same = λ i. same x (inl refl) i ∷ map_members f g xs (λ y m. same y (inr m)) i

module _ {K : Type 0} {R : K → K → Ordering} (o : IsTotalOrder R) where
  -- no element is before itself, and of two elements at most one is before the other
  pub not_both_less : (x y : K) → R x y ≡ Less → R y x ≡ Less → ⊥
  not_both_less x y p q = let e : Less ≡ Greater = sym p ∙ o.antisymm x y ∙ ap ordering_reverse q in cc

  -- the first of a strictly sorted list is before each member of the rest
  pub first_is_less : (x y : K) (xs : List K) → IsStrictlySortedBy R (x ∷ xs) → Member y xs → R x y ≡ Less
  unfolding IsStrictlySortedBy
  first_is_less x y xs s m = at_Member (λ z. R x z ≡ Less) y xs s.0 m

  -- the rest of a sorted list is sorted
  pub rest_is_sorted : (x : K) (xs : List K) → IsStrictlySortedBy R (x ∷ xs) → IsStrictlySortedBy R xs
  unfolding IsStrictlySortedBy
  rest_is_sorted x xs s = s.1

  -- two strictly sorted lists with the same members are equal
  pub same_members : (xs ys : List K) → IsStrictlySortedBy R xs → IsStrictlySortedBy R ys
      → ((z : K) → Member z xs → Member z ys) → ((z : K) → Member z ys → Member z xs) → xs ≡ ys
  same_members [] [] s t into back = refl
  same_members [] (y ∷ ys) s t into back = absurd (back y (inl refl))
  same_members (x ∷ xs) [] s t into back = absurd (into x (inl refl))
  same_members (x ∷ xs) (y ∷ ys) s t into back =
      let same : x ≡ y = heads (into x (inl refl)) (back y (inl refl)) in
      let rest = same_members xs ys (rest_is_sorted x xs s) (rest_is_sorted y ys t)
      (λ z m. later z y ys (sym same) (first_is_less x z xs s m) (into z (inr m)))
      (λ z m. later z x xs same (first_is_less y z ys t m) (back z (inr m))) in
      cc
    where
      heads : Member x (y ∷ ys) → Member y (x ∷ xs) → x ≡ y
      heads h1 h2 = grind (arith, common_steps, not_both_less, first_is_less)

      later : (z a : K) (bs : List K) → {b : K} → a ≡ b → R b z ≡ Less → Member z (a ∷ bs) → Member z bs
      later h1 h2 h3 h4 h5 h6 = grind (arith, common_steps)

module _ {K : Type 0} where
  -- two strictly sorted lists, each of whose elements are in order
  pub sorted_append : (R : K → K → Ordering) (xs ys : List K) → IsStrictlySortedBy R xs → IsStrictlySortedBy R ys
      → ((x y : K) → Member x xs → Member y ys → R x y ≡ Less) → IsStrictlySortedBy R (xs ++ ys)
  unfolding IsStrictlySortedBy
  sorted_append R [] ys s t across = t
  sorted_append R (x ∷ xs) ys s t across = (
    All-from_Member (λ z. R x z ≡ Less) (xs ++ ys)
        (λ z m. elim (Member-append z xs ys m) [ inl n ↦ at_Member (λ w. R x w ≡ Less) z xs s.0 n | inr n ↦ across x z (inl refl) n ]),
    sorted_append R xs ys s.1 t (λ a b m n. across a b (inr m) n),
  )

  -- a list sorted by one order is sorted by another that agrees on its members
  pub sorted_along : (R S : K → K → Ordering) (xs : List K) → ((x y : K) → Member x xs → Member y xs → R x y ≡ Less → S x y ≡ Less)
      → IsStrictlySortedBy R xs → IsStrictlySortedBy S xs
  unfolding IsStrictlySortedBy
  sorted_along R S [] agree s = tt
  sorted_along R S (x ∷ xs) agree s = (
    All-from_Member (λ z. S x z ≡ Less) xs (λ z m. agree x z (inl refl) (inr m) (at_Member (λ w. R x w ≡ Less) z xs s.0 m)),
    sorted_along R S xs (λ a b m n. agree a b (inr m) (inr n)) s.1,
  )

-- a list of images is sorted where the order of the images is that of the elements
pub sorted_map : {K J : Type 0} (R : K → K → Ordering) (S : J → J → Ordering) (f : K → J) (xs : List K)
    → ((x y : K) → R x y ≡ Less → S (f x) (f y) ≡ Less) → IsStrictlySortedBy R xs → IsStrictlySortedBy S (map f xs)
unfolding IsStrictlySortedBy
sorted_map R S f [] agree s = tt
sorted_map R S f (x ∷ xs) agree s = (
  All-from_Member (λ z. S (f x) z ≡ Less) (map f xs)
      (λ z m. let p = Member-from_map f z xs m in subst (λ w. S (f x) w ≡ Less) p.2 (agree x p.0 (at_Member (λ w. R x w ≡ Less) p.0 xs s.0 p.1))),
  sorted_map R S f xs agree s.1,
)
