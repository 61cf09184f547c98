-- A set without one of its items, and a set with an item more.
use Rattle.std.proofs.Common.{◌≡◌, ℕ, ◌+◌, ◌<◌, Bool, true, false, not, List, [], ◌∷◌, ◌++◌, length, get_or, refl, sym, ap, ◌∙◌, inl, inr, arith, zero, suc}
use Rattle.std.proofs.lemmas.Grind.{common_steps}
use Rattle.std.specs.List.{flat_map, list_all}
use Rattle.std.proofs.lemmas.Bool.{cases_Bool, and_from, true≢false, false_from_ne_true}
use Rattle.basket_sets.specs.Itemset.{IsRising, has, contains, with_item, without}
use Rattle.basket_sets.proofs.theory.Members.{Member}
use Rattle.basket_sets.proofs.theory.Rising.{Member-from_has, has-from_Member, has_each, contains_each, cons_rises, first_below, rest_rises, same_test, with_item_by, Member-with_item, Member-into_with_item}
use Rattle.basket_sets.proofs.theory.Tests.{all_of, each_of}

-- ---- tests

pub not_true : (b : Bool) → b ≡ false → not b ≡ true
not_true h1 h2 = grind (arith, common_steps)

pub true_not : (b : Bool) → not b ≡ true → b ≡ false
true_not h1 h2 = grind (arith, common_steps)

none_there : {X Y : Type 0} (p : X → Bool) (q : Y → Bool) (xs : List X) (ys : List Y) → ((y : Y) → Member y ys → q y ≡ true → (x : X) × Member x xs × (p x ≡ true))
    → list_all (λ x. not (p x)) xs ≡ true → list_all (λ y. not (q y)) ys ≡ true
none_there p q xs ys back h = grind (arith, common_steps, all_of, not_true, false_from_ne_true, true≢false, true_not, each_of)

-- none of one list passes exactly where none of another does
pub none_alike : {X Y : Type 0} (p : X → Bool) (q : Y → Bool) (xs : List X) (ys : List Y) → ((x : X) → Member x xs → p x ≡ true → (y : Y) × Member y ys × (q y ≡ true))
    → ((y : Y) → Member y ys → q y ≡ true → (x : X) × Member x xs × (p x ≡ true)) → list_all (λ x. not (p x)) xs ≡ list_all (λ y. not (q y)) ys
none_alike p q xs ys into back = same_test _ _ (none_there p q xs ys back) (none_there q p ys xs into)

pub flat_map_same : {X Y : Type 0} (f g : X → List Y) (xs : List X) → ((x : X) → Member x xs → f x ≡ g x) → flat_map f xs ≡ flat_map g xs
flat_map_same f g [] same = refl
flat_map_same f g (x ∷ xs) same = λ i. same x (inl refl) i ++ flat_map_same f g xs (λ y m. same y (inr m)) i

-- ---- an index left out

-- what is left stands in the list
pub Member-without : (index : ℕ) (items : List ℕ) (x : ℕ) → Member x (without index items) → Member x items
Member-without index [] x m = m
Member-without zero (y ∷ items) x m = inr m
Member-without (suc index) (y ∷ items) x (inl e) = inl e
Member-without (suc index) (y ∷ items) x (inr m) = inr (Member-without index items x m)

-- so does each item that stands at another index
pub Member-into_without : (index : ℕ) (items : List ℕ) (none x : ℕ) → Member x items → (x ≡ get_or items index none → ⊥) → Member x (without index items)
Member-into_without index [] none x m other = m
Member-into_without zero (y ∷ items) none x (inl e) other = absurd (other (sym e))
Member-into_without zero (y ∷ items) none x (inr m) other = m
Member-into_without (suc index) (y ∷ items) none x (inl e) other = inl e
Member-into_without (suc index) (y ∷ items) none x (inr m) other = inr (Member-into_without index items none x m other)

pub length-without : (index : ℕ) (items : List ℕ) → index < length items → length (without index items) + 1 ≡ length items
length-without index [] below = absurd (omega (arith, below))
length-without zero (y ∷ items) below = omega arith
length-without (suc index) (y ∷ items) below = let rest = length-without index items (omega (arith, below)) in omega (arith, rest)

pub without-rises : (index : ℕ) (items : List ℕ) → IsRising items → IsRising (without index items)
without-rises index [] up = up
without-rises zero (y ∷ items) up = rest_rises y items up
without-rises (suc index) (y ∷ items) up =
    cons_rises y (without index items) (λ x m. first_below y items up x (Member-without index items x m)) (without-rises index items (rest_rises y items up))

-- an item of a rising list is gone when its index is left out
pub lacks : (index : ℕ) (items : List ℕ) → IsRising items → index < length items → (x : ℕ) × Member x items × (Member x (without index items) → ⊥)
lacks index [] up below = absurd (omega (arith, below))
lacks zero (y ∷ items) up below = (y, inl refl, λ m. let b = first_below y items up y m in absurd (omega arith))
lacks (suc index) (y ∷ items) up below =
    let r = lacks index items (rest_rises y items up) (omega (arith, below)) in
    (r.0, inr r.1, gone r.0 r.1 r.2)
  where
    gone : (x : ℕ) → Member x items → (Member x (without index items) → ⊥) → Member x (y ∷ without index items) → ⊥
    gone x m lack (inl e) = let b = first_below y items up x m in omega arith
    gone x m lack (inr n) = lack n

-- a set contains it without an item, and not the other way round
pub contains_without : (index : ℕ) (items : List ℕ) → contains items (without index items) ≡ true
contains_without index items = contains_each items (without index items) (Member-without index items)

pub without_lacks : (index : ℕ) (items : List ℕ) → IsRising items → index < length items → contains (without index items) items ≡ false
without_lacks index items up below = false_from_ne_true _ (λ h. let r = lacks index items up below in r.2 (has_each (without index items) items h r.0 r.1))

-- ---- an item more

-- a set with an item more is that set without the item's index
pub placed : (item : ℕ) (items : List ℕ) → has items item ≡ false → (index : ℕ) × (index < length (with_item item items)) × (without index (with_item item items) ≡ items)
placed item [] lack = (0, omega arith, refl)
placed item (x ∷ items) lack = with_item_by (λ l. (index : ℕ) × (index < length l) × (without index l ≡ x ∷ items)) item x items (λ less. (0, omega arith, refl))
    (λ same. absurd (true≢false (sym (has-from_Member (x ∷ items) item (inl (sym same))) ∙ lack)))
    (λ more. let r = placed item items (rest_lacks lack) in (suc r.0, omega (arith, r.1), ap (λ l. x ∷ l) r.2))
  where
    rest_lacks : has (x ∷ items) item ≡ false → has items item ≡ false
    rest_lacks h = false_from_ne_true _ (λ e. true≢false (sym (has-from_Member (x ∷ items) item (inr (Member-from_has items item e))) ∙ h))

-- a set that has an item more than another
pub item_more : (set other : List ℕ) → contains set other ≡ false → (item : ℕ) × Member item other × (has set item ≡ false)
item_more set [] lack = absurd (true≢false lack)
item_more set (x ∷ other) lack = elim (cases_Bool (has set x)) [
  | inl e ↦ (let r = item_more set other (false_from_ne_true _ (λ h. true≢false (sym (and_from (has set x) (contains set other) e h) ∙ lack))) in (r.0, inr r.1, r.2))
  | inr e ↦ (x, inl refl, e)
]

-- a set with an item more contains that set, and is contained in each set that has both
pub contains_less : (item : ℕ) (set : List ℕ) → contains (with_item item set) set ≡ true
contains_less item set = contains_each (with_item item set) set (λ x m. Member-into_with_item item set x (inr m))

pub contains_with_item : (item : ℕ) (set other : List ℕ) → Member item other → contains other set ≡ true → contains other (with_item item set) ≡ true
contains_with_item item set other m h = grind (arith, common_steps, contains_each, Member-with_item, Member, has_each)

-- it has an item that the set lacks
pub with_item_lacks : (item : ℕ) (set : List ℕ) → has set item ≡ false → contains set (with_item item set) ≡ false
with_item_lacks item set lack = grind (arith, common_steps, false_from_ne_true, true≢false, has-from_Member, has_each, Member-into_with_item)
