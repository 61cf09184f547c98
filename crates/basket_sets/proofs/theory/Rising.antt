-- Rising lists of items, what they have, and what they contain.
use Rattle.std.proofs.Common.{◌≡◌, ◌≢◌, ℕ, zero, suc, ◌+◌, ◌<◌, ◌≤◌, Bool, true, false, ◌||◌, List, [], ◌∷◌, ◌++◌, length, cond, eqb, ltb, refl, sym, ap, ◌∙◌, subst, inl, inr, ◌⊎◌, arith, get_or, set, take, Result, Ok, Err, is_ok}
use Rattle.std.proofs.lemmas.Grind.{common_steps}
use Rattle.std.specs.declared.cmp.Ordering.TheVariants.{Less, Equal, Greater}
use Rattle.std.specs.Ordering.{nat_cmp}
use Rattle.std.specs.Cmp.{nat_cmp_total}
use Rattle.std.specs.Prelude.{nat_eq}
use Rattle.std.specs.List.Sorted.{IsStrictlySortedBy}
use Rattle.std.proofs.lemmas.Bool.{eqb-true, ltb-true, ltb-false, eq-eqb, ne_eqb, lt-ltb, or_cases, cases_Bool, and_parts, and_from, cases_lt, true≢false, false_from_ne_true}
use Rattle.std.proofs.Math.Bool.{or_assoc}
use Rattle.std.proofs.lemmas.Bool.Decides.{nat_tests}
use Rattle.basket_sets.specs.Itemset.{IsRising, has, contains, with_item, rising}
use Rattle.std.specs.List.Sorted.{IsBinarySearchResult, IsPermutation, IsSorted}
use Rattle.std.specs.List.{Contains, IsAllAdjacentAnswer, IsDistinct, dedup, insert}
use Rattle.std.proofs.lemmas.List.{get_or_default, get_or-take, length-take}
use Rattle.std.proofs.lemmas.List.Kept.{Contains-dedup_nat, Contains-from_dedup}
use Rattle.std.proofs.lemmas.List.Sorted.{searched, Contains-permutation, IsPermutation-sym}
use Rattle.std.proofs.lemmas.Map.Keys.{IsDistinct-from_apart, apart_from_distinct, non_decreasing_from_sorted, sorted_from_strictly_increasing, below_from_sorted, IsStrictlyIncreasing-dedup}
use Rattle.basket_sets.proofs.theory.Members.{Member, Member-append_left, All-from_Member, first_is_less, rest_is_sorted, same_members, Member-from_Contains, Contains-from_Member}

-- ---- the order of numbers

-- the comparison of numbers says less where they are
pub Less-from_lt : (x y : ℕ) → x < y → nat_cmp x y ≡ Less
Less-from_lt x y h = ap (λ b. cond b Less (cond (eqb x y) Equal Greater)) (lt-ltb x y h)

pub lt-from_Less : (x y : ℕ) → nat_cmp x y ≡ Less → x < y
lt-from_Less x y h = grind (arith, nat_tests)

-- ---- membership, as a test and as a fact

-- tests that imply each other are equal
pub same_test : (a b : Bool) → (a ≡ true → b ≡ true) → (b ≡ true → a ≡ true) → a ≡ b
same_test h1 h2 h3 h4 = grind (arith, common_steps)

-- a list has its members
pub Member-from_has : (items : List ℕ) (item : ℕ) → has items item ≡ true → Member item items
Member-from_has [] item h = absurd cc
Member-from_has (x ∷ xs) item h = elim (or_cases (eqb x item) (has xs item) h) [ inl e ↦ inl (eqb-true x item e) | inr e ↦ inr (Member-from_has xs item e) ]

pub has-from_Member : (items : List ℕ) (item : ℕ) → Member item items → has items item ≡ true
has-from_Member [] item m = absurd m
has-from_Member (x ∷ xs) item (inl e) = ap (λ b. b || has xs item) (eq-eqb x item e)
has-from_Member (x ∷ xs) item (inr m) = grind (arith, common_steps, has-from_Member xs item m)

-- ---- contains

-- a basket contains a set exactly where it has each of its items
pub has_each : (basket set : List ℕ) → contains basket set ≡ true → (item : ℕ) → Member item set → Member item basket
has_each basket [] h item m = absurd m
has_each basket (x ∷ set) h item (inl e) = subst (λ y. Member y basket) e (Member-from_has basket x (and_parts (has basket x) (contains basket set) h).0)
has_each basket (x ∷ set) h item (inr m) = has_each basket set (and_parts (has basket x) (contains basket set) h).1 item m

pub contains_each : (basket set : List ℕ) → ((item : ℕ) → Member item set → Member item basket) → contains basket set ≡ true
contains_each basket [] h = refl
contains_each basket (x ∷ set) h =
    and_from (has basket x) (contains basket set) (has-from_Member basket x (h x (inl refl))) (contains_each basket set (λ item m. h item (inr m)))

-- containing is reflexive and transitive
pub contains-refl : (set : List ℕ) → contains set set ≡ true
contains-refl set = contains_each set set (λ item m. m)

pub contains-trans : (a b c : List ℕ) → contains a b ≡ true → contains b c ≡ true → contains a c ≡ true
contains-trans a b c h k = contains_each a c (λ item m. has_each a b h item (has_each b c k item m))

-- ---- rising lists

-- the empty list rises
pub nil_rises : IsRising []
unfolding IsStrictlySortedBy
nil_rises = tt

-- a list rises whose first number is below all others, which rise
pub cons_rises : (x : ℕ) (xs : List ℕ) → ((y : ℕ) → Member y xs → x < y) → IsRising xs → IsRising (x ∷ xs)
unfolding IsStrictlySortedBy
cons_rises x xs below rest = (All-from_Member (λ y. nat_cmp x y ≡ Less) xs (λ y m. Less-from_lt x y (below y m)), rest)

-- the first number of a rising list is below all others
pub first_below : (x : ℕ) (xs : List ℕ) → IsRising (x ∷ xs) → (y : ℕ) → Member y xs → x < y
first_below x xs up y m = lt-from_Less x y (first_is_less nat_cmp_total x y xs up m)

-- the rest of a rising list rises
pub rest_rises : (x : ℕ) (xs : List ℕ) → IsRising (x ∷ xs) → IsRising xs
rest_rises x xs up = rest_is_sorted nat_cmp_total x xs up

-- rising numbers are distinct
pub rising_distinct : (xs : List ℕ) → IsRising xs → IsDistinct nat_eq xs
unfolding IsDistinct
rising_distinct [] up = tt
rising_distinct (x ∷ xs) up = grind (arith, common_steps, rising_distinct xs (rest_rises x xs up), All-from_Member, ne_eqb, first_below, rest_rises)

-- two rising lists that have the same items are equal
pub same_rising : (xs ys : List ℕ) → IsRising xs → IsRising ys → ((z : ℕ) → Member z xs → Member z ys) → ((z : ℕ) → Member z ys → Member z xs) → xs ≡ ys
same_rising xs ys = same_members nat_cmp_total xs ys

-- ---- the rising list of a list's items

-- what holds of each form of a list with an item holds of that list
pub with_item_by : (P : List ℕ → Type 0) (a x : ℕ) (xs : List ℕ) → (a < x → P (a ∷ x ∷ xs)) → (a ≡ x → P (x ∷ xs)) → (x < a → P (x ∷ with_item a xs)) → P (with_item a (x ∷ xs))
with_item_by P a x xs less same more = grind (arith, common_steps)

-- a list with an item has that item and its own
pub Member-with_item : (a : ℕ) (xs : List ℕ) (y : ℕ) → Member y (with_item a xs) → (a ≡ y) ⊎ Member y xs
Member-with_item a [] y (inl e) = inl e
Member-with_item a [] y (inr m) = absurd m
Member-with_item a (x ∷ xs) y m = with_item_by (λ l. Member y l → (a ≡ y) ⊎ Member y (x ∷ xs)) a x xs (λ less n. n) (λ same n. inr n)
    (λ more n. elim n [ inl e ↦ inr (inl e) | inr k ↦ elim (Member-with_item a xs y k) [ inl e ↦ inl e | inr own ↦ inr (inr own) ] ]) m

pub Member-into_with_item : (a : ℕ) (xs : List ℕ) (y : ℕ) → (a ≡ y) ⊎ Member y xs → Member y (with_item a xs)
Member-into_with_item a [] y (inl e) = inl e
Member-into_with_item a [] y (inr m) = absurd m
Member-into_with_item a (x ∷ xs) y m = with_item_by (Member y) a x xs (λ less. m) (λ same. elim m [ inl e ↦ inl (sym same ∙ e) | inr k ↦ k ]) (λ more. elim m [
  | inl e ↦ inr (Member-into_with_item a xs y (inl e))
  | inr k ↦ elim k [ inl e ↦ inl e | inr n ↦ inr (Member-into_with_item a xs y (inr n)) ]
])

pub with_item-rises : (a : ℕ) (xs : List ℕ) → IsRising xs → IsRising (with_item a xs)
with_item-rises a [] up = cons_rises a [] (λ y m. absurd m) nil_rises
with_item-rises a (x ∷ xs) up = with_item_by IsRising a x xs
    (λ less. cons_rises a (x ∷ xs) (λ y m. elim m [ inl e ↦ omega arith | inr n ↦ (let b = first_below x xs up y n in omega arith) ]) up)
    (λ same. up)
    (λ more. cons_rises x (with_item a xs) (λ y m. elim (Member-with_item a xs y m) [ inl e ↦ omega arith | inr n ↦ first_below x xs up y n ]) (with_item-rises a xs (rest_rises x xs up)))

-- it is no longer than by one, and by one if the item is new
with_item-long : (a : ℕ) (xs : List ℕ) → length (with_item a xs) ≤ length xs + 1
with_item-long a [] = omega arith
with_item-long a (x ∷ xs) = with_item_by (λ l. length l ≤ length (x ∷ xs) + 1) a x xs (λ less. omega arith) (λ same. omega arith) (λ more. omega (arith, with_item-long a xs))

pub length-with_item : (a : ℕ) (xs : List ℕ) → (Member a xs → ⊥) → length (with_item a xs) ≡ suc (length xs)
length-with_item a [] new = refl
length-with_item a (x ∷ xs) new = with_item_by (λ l. length l ≡ suc (length (x ∷ xs))) a x xs (λ less. refl) (λ same. absurd (new (inl (sym same)))) (λ more. ap suc (length-with_item a xs (λ m. new (inr m))))

pub rising-rises : (numbers : List ℕ) → IsRising (rising numbers)
rising-rises [] = nil_rises
rising-rises (x ∷ numbers) = with_item-rises x (rising numbers) (rising-rises numbers)

pub Member-rising : (numbers : List ℕ) (y : ℕ) → Member y (rising numbers) → Member y numbers
Member-rising [] y m = m
Member-rising (x ∷ numbers) y m = elim (Member-with_item x (rising numbers) y m) [ inl e ↦ inl e | inr n ↦ inr (Member-rising numbers y n) ]

pub Member-into_rising : (numbers : List ℕ) (y : ℕ) → Member y numbers → Member y (rising numbers)
Member-into_rising [] y m = m
Member-into_rising (x ∷ numbers) y (inl e) = Member-into_with_item x (rising numbers) y (inl e)
Member-into_rising (x ∷ numbers) y (inr m) = Member-into_with_item x (rising numbers) y (inr (Member-into_rising numbers y m))

-- the rising list of a rising list is that list, and that of a list with the same numbers is the same
pub rising_is : (numbers items : List ℕ) → IsRising items → ((z : ℕ) → Member z numbers → Member z items) → ((z : ℕ) → Member z items → Member z numbers) → rising numbers ≡ items
rising_is numbers items up into back = grind (arith, common_steps, same_rising, rising-rises, Member-rising, Member-into_rising)

-- a rising list is its own rising list
pub rising-rising : (items : List ℕ) → IsRising items → rising items ≡ items
rising-rising items up = rising_is items items up (λ z m. m) (λ z m. m)

-- a rising list that another contains is no longer than it
pub length-le-contains : (set items : List ℕ) → IsRising set → IsRising items → ((z : ℕ) → Member z set → Member z items) → length set ≤ length items
length-le-contains [] items up over into = omega arith
length-le-contains (x ∷ set) [] up over into = absurd (into x (inl refl))
length-le-contains (x ∷ set) (y ∷ items) up over into = elim (into x (inl refl)) [
  | inl same ↦ let n = length-le-contains set items (rest_rises x set up) (rest_rises y items over)
      (λ z m. elim (into z (inr m)) [ inl e ↦ absurd (let b = first_below x set up z m in omega arith) | inr k ↦ k ]) in omega arith
  | inr later ↦ let n = length-le-contains (x ∷ set) items up (rest_rises y items over)
      (λ z m. elim (into z m) [ inl e ↦ absurd (let b = first_below y items over x later in let c = heads z m in omega arith) | inr k ↦ k ]) in omega arith
]
  where
    heads : (z : ℕ) → Member z (x ∷ set) → x ≤ z
    heads h1 h2 = grind (arith, common_steps, first_below)

-- the rising list of some numbers is no longer than they are
rising-long : (numbers : List ℕ) → length (rising numbers) ≤ length numbers
rising-long [] = omega arith
rising-long (x ∷ numbers) = let one = with_item-long x (rising numbers) in let more = rising-long numbers in omega arith

-- a rising list within another that is no longer is that one
whole_rising : (set items : List ℕ) → IsRising set → IsRising items → ((z : ℕ) → Member z set → Member z items) → length items ≤ length set → set ≡ items
whole_rising set items up over into long = same_rising set items up over into (λ z m. elim (cases_Bool (has set z)) [
  | inl e ↦ Member-from_has set z e
  | inr e ↦ absurd (let n = length-le-contains (with_item z set) items (with_item-rises z set up) over (λ y k. elim (Member-with_item z set y k) [ inl s ↦ subst (λ w. Member w items) s m | inr own ↦ into y own ]) in
      omega (arith, length-with_item z set (λ own. true≢false (sym (has-from_Member set z own) ∙ e))))
])

-- a rising list of some of the numbers that is as long is their rising list
pub as_long_rising : (numbers items : List ℕ) → IsRising items → ((z : ℕ) → has items z ≡ true → has numbers z ≡ true) → length items ≡ length numbers → items ≡ rising numbers
as_long_rising numbers items up from long = grind (arith, common_steps, rising-long, whole_rising, rising-rises, Member-into_rising, Member-from_has, has-from_Member)

-- ---- a binary search of a rising list

rises_by_index : (items : List ℕ) → IsRising items → (i j : ℕ) → i ≤ j → j < length items → get_or items i 0 ≤ get_or items j 0
rises_by_index items up i j le below = non_decreasing_from_sorted items up i j 0 le below

-- a search finds exactly what the list has
pub search_is_has : (items : List ℕ) (item : ℕ) (r : Result ℕ ℕ) → IsRising items → IsBinarySearchResult (λ y. nat_cmp y item) items r → is_ok r ≡ has items item
search_is_has items item (Ok i) up found =
    let s = searched items item (Ok i) found (rises_by_index items up) in
    sym (has-from_Member items item (Member-from_Contains item items (i, s.0, ap (λ d. d) (get_or_default items i item 0 s.0 ∙ s.1))))
search_is_has items item (Err i) up found = elim (cases_Bool (has items item)) [
  | inl e ↦ absurd (missing (Contains-from_Member item items (Member-from_has items item e)))
  | inr e ↦ sym e
]
  where
    missing : Contains items item → ⊥
    missing c =
        let s = searched items item (Err i) found (rises_by_index items up) in
        let at : get_or items c.0 0 ≡ item = get_or_default items c.0 0 item c.1 ∙ c.2 in
        elim (cases_lt c.0 i) [ inl less ↦ (let b = s.1 c.0 less in omega arith) | inr more ↦ (let b = s.2 c.0 more c.1 in omega arith) ]

-- ---- what a list has, item by item

-- two lists joined have what one of them has
pub has-append : (a b : List ℕ) (x : ℕ) → has (a ++ b) x ≡ (has a x || has b x)
has-append [] b x = refl
has-append (y ∷ a) b x = ap (λ t. eqb y x || t) (has-append a b x) ∙ sym (or_assoc (eqb y x) (has a x) (has b x))

-- one more item
pub has_more : (items : List ℕ) (i x : ℕ) → i < length items → has (take (i + 1) items) x ≡ (has (take i items) x || eqb (get_or items i 0) x)
has_more items i x below = grind (arith, common_steps)

-- a list has what stands in it
pub has_at : (items : List ℕ) (i : ℕ) → i < length items → has items (get_or items i 0) ≡ true
has_at items i below = has-from_Member items (get_or items i 0) (Member-from_Contains (get_or items i 0) items (i, below, get_or_default items i (get_or items i 0) 0 below))

-- a list with an item at an index has that item and its own
pub has-set : (items : List ℕ) (k x z : ℕ) → has (set items k x) z ≡ true → (x ≡ z) ⊎ (has items z ≡ true)
has-set items k x z h = elim (Member-set items k (Member-from_has (set items k x) z h)) [ inl e ↦ inl e | inr m ↦ inr (has-from_Member items z m) ]
  where
    Member-set : (items : List ℕ) (k : ℕ) → Member z (set items k x) → (x ≡ z) ⊎ Member z items
    Member-set [] k m = absurd m
    Member-set (y ∷ items) zero (inl e) = inl e
    Member-set (y ∷ items) zero (inr m) = inr (inr m)
    Member-set (y ∷ items) (suc k) (inl e) = inr (inl e)
    Member-set (y ∷ items) (suc k) (inr m) = elim (Member-set items k m) [ inl e ↦ inl e | inr n ↦ inr (inr n) ]

-- of distinct numbers none is among those before it
pub not_before : (items : List ℕ) (i : ℕ) → IsDistinct nat_eq items → i < length items → has (take i items) (get_or items i 0) ≡ false
not_before items i distinct below = false_from_ne_true _ (λ h.
    let item = get_or items i 0 in
    let c = Contains-from_Member item (take i items) (Member-from_has (take i items) item h) in
    let short : c.0 < i = omega (arith, c.1, length-take i items) in
    true≢false (sym (eq-eqb _ _ (sym (get_or-take i items c.0 item short) ∙ c.2))
    ∙ ap (eqb (get_or items c.0 item)) (get_or_default items i 0 item below) ∙ apart_from_distinct nat_eq items c.0 i item distinct short below))

pub distinct_from_before : (items : List ℕ) → ((i : ℕ) → i < length items → has (take i items) (get_or items i 0) ≡ false) → IsDistinct nat_eq items
distinct_from_before items apart = IsDistinct-from_apart nat_eq items (λ i j d less below. ne_eqb _ _ (λ same.
    let here : i < length (take j items) = omega (arith, length-take j items) in
    true≢false (sym (has_at (take j items) i here) ∙ ap (has (take j items)) (get_or_default (take j items) i 0 d here ∙ get_or-take j items i d less ∙ same ∙ get_or_default items j d 0 below) ∙ apart j below)))

pub has-rising : (numbers : List ℕ) (item : ℕ) → has (rising numbers) item ≡ has numbers item
has-rising numbers item = grind (arith, common_steps, same_test, has-from_Member, Member-rising, Member-from_has, Member-into_rising)

-- ---- the tests and edits of the code

-- the test of neighbours tells whether a list rises
pub rising_test : (numbers : List ℕ) (r : Bool) → IsAllAdjacentAnswer (λ x y b. b ≡ ltb x y) numbers r → (r ≡ true → IsRising numbers) × (IsRising numbers → r ≡ true)
rising_test numbers true h = (λ e. sorted_from_strictly_increasing numbers (λ k below. ltb-true _ _ (sym (h k 0 below))), λ up. refl)
rising_test numbers false h = (
  λ e. absurd (true≢false (sym e)),
  λ up. absurd (let b = below_from_sorted numbers h.0 (h.0 + 1) 0 up (omega arith) h.1 in let f = ltb-false _ _ (sym (h.2 0)) in omega arith),
)

-- a sorted permutation with no repeats is the rising list of the numbers
pub rising-dedup : (numbers sorted : List ℕ) → IsPermutation numbers sorted → IsSorted nat_cmp sorted → dedup eqb sorted ≡ rising numbers
rising-dedup numbers sorted moved up = sym (rising_is numbers (dedup eqb sorted)
    (sorted_from_strictly_increasing (dedup eqb sorted) (IsStrictlyIncreasing-dedup sorted up))
    (λ z m. Member-from_Contains z (dedup eqb sorted) (Contains-dedup_nat sorted z (Contains-permutation numbers sorted z moved (Contains-from_Member z numbers m))))
    (λ z m. Member-from_Contains z numbers (Contains-permutation sorted numbers z (IsPermutation-sym numbers sorted moved) (Contains-from_dedup eqb sorted z (Contains-from_Member z (dedup eqb sorted) m)))))

-- what a search answers: an index of the item, or that it is nowhere
pub found_at : (items : List ℕ) (item found : ℕ) → IsRising items → IsBinarySearchResult (λ y. nat_cmp y item) items (Ok found) → (found < length items) × (get_or items found 0 ≡ item)
found_at items item found up is = searched items item (Ok found) is (rises_by_index items up)

-- a rising list with an item put where it belongs
inserted_is : (items : List ℕ) (index item : ℕ) → index ≤ length items → ((k : ℕ) → k < index → get_or items k 0 < item)
    → ((k : ℕ) → index ≤ k → k < length items → item < get_or items k 0) → insert items index item ≡ with_item item items
inserted_is [] zero item short below above = refl
inserted_is [] (suc index) item short below above = absurd (omega (arith, short))
inserted_is (x ∷ items) zero item short below above = let first = above 0 (omega arith) (omega arith) in
    with_item_by (λ l. item ∷ x ∷ items ≡ l) item x items (λ less. refl) (λ same. absurd (omega arith)) (λ more. absurd (omega arith))
inserted_is (x ∷ items) (suc index) item short below above = let first : x < item = below 0 (omega arith) in
    with_item_by (λ l. x ∷ insert items index item ≡ l) item x items (λ less. absurd (omega arith)) (λ same. absurd (omega arith)) (λ more.
    ap (λ l. x ∷ l) (inserted_is items index item (omega arith) (λ k less. below (suc k) (omega arith)) (λ k later inside. above (suc k) (omega arith) (omega arith))))

-- a rising list with an item that a search found, or with one put where it has to stand
pub with_found : (items : List ℕ) (item found : ℕ) → IsRising items → IsBinarySearchResult (λ y. nat_cmp y item) items (Ok found) → items ≡ with_item item items
with_found items item found up is = same_rising items (with_item item items) up (with_item-rises item items up)
    (λ z m. Member-into_with_item item items z (inr m))
    (λ z m. elim (Member-with_item item items z m) [
      | inl e ↦ Member-from_has items z (subst (λ y. has items y ≡ true) e (sym (search_is_has items item (Ok found) up is)))
      | inr n ↦ n
    ])

pub with_put : (items : List ℕ) (item index : ℕ) → IsRising items → IsBinarySearchResult (λ y. nat_cmp y item) items (Err index)
    → (index ≤ length items) × (insert items index item ≡ with_item item items)
with_put items item index up is = let s = searched items item (Err index) is (rises_by_index items up) in grind (arith, common_steps, inserted_is)

-- an item that was not found stands nowhere
pub found_nowhere : (items : List ℕ) (item index : ℕ) → IsRising items → IsBinarySearchResult (λ y. nat_cmp y item) items (Err index) → (k : ℕ) → k < length items → get_or items k 0 ≢ item
found_nowhere items item index up is k below e = grind (arith, common_steps, searched items item (Err index) is (rises_by_index items up), rises_by_index items up, cases_lt k index)

-- a rising list without its last item rises
pub front_rises : (front : List ℕ) (last : ℕ) → IsRising (front ++ last ∷ []) → IsRising front
front_rises [] last up = nil_rises
front_rises (x ∷ front) last up = grind (arith, common_steps, front_rises front last (rest_rises x (front ++ last ∷ []) up), cons_rises, first_below, Member-append_left, rest_rises)
