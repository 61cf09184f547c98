-- The frequent sets of one item are the items whose supports meet the minimum.
use Rattle.std.proofs.Common.{◌≡◌, ℕ, Bool, true, false, List, [], ◌∷◌, ◌++◌, length, map, cond, eqb, refl, sym, ap, ◌∙◌, inl, inr, arith, zero, suc}
use Rattle.std.proofs.lemmas.Grind.{common_steps}
use Rattle.std.specs.List.{filter}
use Rattle.std.proofs.lemmas.Bool.{eq-eqb, ne_eqb}
use Rattle.std.proofs.lemmas.Simd.{map-map}
use Rattle.std.proofs.lemmas.List.{append-nil}
use Rattle.std.proofs.lemmas.List.Elements.{filter-append}
use Rattle.basket_sets.specs.Minimum.{meets}
use Rattle.basket_sets.specs.Subsets.{subsets_of_size, subsets_up_to, subsets_of}
use Rattle.basket_sets.specs.Support.{support_of, total_of, items_of}
use Rattle.basket_sets.specs.Frequent.{is_frequent, counted, item_counted, FrequentItemsAreCounted}
use Rattle.basket_sets.proofs.theory.Members.{Member, Member-append, Member-from_map}

-- ---- filters

-- images that pass a test are the images of what passes it
pub filter-map : {X Y : Type 0} (f : X → Y) (p : Y → Bool) (xs : List X) → filter p (map f xs) ≡ map f (filter (λ x. p (f x)) xs)
filter-map f p [] = refl
filter-map f p (x ∷ xs) = grind (arith, common_steps, filter-map f p xs)

filter_twice : {X : Type 0} (p q : X → Bool) (xs : List X) → filter p (filter q xs) ≡ filter q (filter p xs)
filter_twice p q [] = refl
filter_twice p q (x ∷ xs) = grind (arith, common_steps, filter_twice p q xs)

pub filter_all : {X : Type 0} (p : X → Bool) (xs : List X) → ((x : X) → Member x xs → p x ≡ true) → filter p xs ≡ xs
filter_all p [] h = refl
filter_all p (x ∷ xs) h = ap (λ b. cond b (x ∷ filter p xs) (filter p xs)) (h x (inl refl)) ∙ ap (λ l. x ∷ l) (filter_all p xs (λ y m. h y (inr m)))

pub filter_none : {X : Type 0} (p : X → Bool) (xs : List X) → ((x : X) → Member x xs → p x ≡ false) → filter p xs ≡ []
filter_none p [] h = refl
filter_none p (x ∷ xs) h = ap (λ b. cond b (x ∷ filter p xs) (filter p xs)) (h x (inl refl)) ∙ filter_none p xs (λ y m. h y (inr m))

-- ---- the subsets of one item

sized : (size : ℕ) (items set : List ℕ) → Member set (subsets_of_size size items) → length set ≡ size
sized zero items set (inl e) = ap length (sym e)
sized zero items set (inr m) = absurd m
sized (suc size) [] set m = absurd m
sized (suc size) (x ∷ items) set m = elim (Member-append set (map (λ s. x ∷ s) (subsets_of_size size items)) (subsets_of_size (suc size) items) m) [
  | inl with' ↦ (let p = Member-from_map (λ s. x ∷ s) set (subsets_of_size size items) with' in ap length (sym p.2) ∙ ap suc (sized size items p.0 p.1))
  | inr without ↦ sized (suc size) items set without
]

-- the subsets of one item
pub one_item : (items : List ℕ) → subsets_of_size 1 items ≡ map (λ x. x ∷ []) items
one_item [] = refl
one_item (x ∷ items) = ap (λ l. (x ∷ []) ∷ l) (one_item items)

singles_up_to : (most : ℕ) (items : List ℕ) → filter (λ set. eqb (length set) 1) (subsets_up_to (suc most) items) ≡ map (λ x. x ∷ []) items
singles_up_to zero items =
    filter_all (λ set. eqb (length set) 1) (subsets_of_size 1 items) (λ set m. eq-eqb (length set) 1 (sized 1 items set m)) ∙ one_item items
singles_up_to (suc most) items =
    filter-append (λ set. eqb (length set) 1) (subsets_up_to (suc most) items) (subsets_of_size (suc (suc most)) items)
    ∙ ap (λ l. filter (λ set. eqb (length set) 1) (subsets_up_to (suc most) items) ++ l)
    (filter_none (λ set. eqb (length set) 1) (subsets_of_size (suc (suc most)) items)
    (λ set m. ne_eqb (length set) 1 (λ one. omega (arith, sized (suc (suc most)) items set m))))
    ∙ append-nil _ ∙ singles_up_to most items

single_subsets : (items : List ℕ) → filter (λ set. eqb (length set) 1) (subsets_of items) ≡ map (λ x. x ∷ []) items
single_subsets h1 = grind (arith, common_steps, singles_up_to)

-- the frequent items are the items whose supports meet the minimum
pub frequent_items_are_counted : FrequentItemsAreCounted
frequent_items_are_counted baskets minimum =
    let items = items_of baskets in
    let q = is_frequent baskets minimum in
    filter-map (counted baskets) (λ c. eqb (length c.set) 1) (filter q (subsets_of items))
    ∙ ap (map (counted baskets))
    (filter_twice (λ set. eqb (length set) 1) q (subsets_of items) ∙ ap (filter q) (single_subsets items) ∙ filter-map (λ x. x ∷ []) q items)
    ∙ map-map (counted baskets) (λ x. x ∷ []) (filter (λ x. q (x ∷ [])) items)
    ∙ sym (ap (map item_counted) (filter-map (λ x. (x, support_of baskets (x ∷ []))) (λ entry. meets minimum entry.1 (total_of baskets)) items)
    ∙ map-map item_counted (λ x. (x, support_of baskets (x ∷ []))) (filter (λ x. q (x ∷ [])) items))
