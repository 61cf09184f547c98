-- Numbers by first appearance.
use Rattle.std.proofs.Common.{◌≡◌, ℕ, zero, suc, ◌+◌, ◌<◌, Bool, true, false, cond, not, ◌||◌, String, List, [], ◌∷◌, ◌++◌, map, length, fold, slice_get, Some, None, is_some, unwrap_or, refl, sym, ap, ◌∙◌, arith}
use Rattle.std.proofs.lemmas.Grind.{common_steps}
use Rattle.std.specs.Bool.{then_some}
use Rattle.std.specs.Cmp.{IsEquivalence}
use Rattle.std.specs.List.{IsDistinct, list_any, list_all, position, position_or_len}
use Rattle.std.specs.Str.{IsUtf8, bytes_eq}
use Rattle.std.specs.Option.{IfSome}
use Rattle.std.specs.String.{string_bytes, string_eq, string_eq_equiv}
use Rattle.std.proofs.lemmas.Bool.{true≢false, ltb-true, lt-ltb, eqb-true, or_left, or_right, and_parts, and_from}
use Rattle.std.proofs.lemmas.List.{map-append}
use Rattle.std.proofs.lemmas.List.Elements.{All-from_recursion}
use Rattle.std.proofs.lemmas.List.Folds.{position_or_len_push, list_any-append, list_any_at}
use Rattle.std.proofs.lemmas.List.Sums.{passes_at_first}
use Rattle.std.proofs.lemmas.Map.Keys.{IsDistinct-head, IsDistinct-tail}
use Rattle.std.proofs.lemmas.Option.{slice_get_within, get_or_from_slice_get}
use Rattle.std.proofs.lemmas.Slice.Eq.{bytes_eq-Decides}
use Rattle.std.proofs.lemmas.Str.{is_utf8-from_IsUtf8}
use Rattle.indexmap.specs.IndexSet.{insert_key}
use Rattle.basket_names.specs.Names.{with_name, number_in, IsKnown, is_among, are_among}

-- ---- a test of a list's images

pub any_of_map : {X Y : Type 0} (f : X → Y) (p : Y → Bool) (xs : List X) → list_any p (map f xs) ≡ list_any (λ x. p (f x)) xs
any_of_map f p [] = refl
any_of_map f p (x ∷ xs) = ap (λ b. p (f x) || b) (any_of_map f p xs)

pub place_of_map : {X Y : Type 0} (f : X → Y) (p : Y → Bool) (xs : List X) → position_or_len p (map f xs) ≡ position_or_len (λ x. p (f x)) xs
place_of_map f p [] = refl
place_of_map f p (x ∷ xs) = ap (λ n. cond (not (p (f x))) (1 + n) 0) (place_of_map f p xs)

-- ---- a name that was looked up

any_at : {X : Type 0} (p : X → Bool) (xs : List X) → position_or_len p xs < length xs → list_any p xs ≡ true
any_at p [] h = absurd (omega arith)
any_at p (x ∷ xs) h = list_any_at p (x ∷ xs) (position_or_len p (x ∷ xs)) x h (passes_at_first p (x ∷ xs) x h)

pub at_any : {X : Type 0} (p : X → Bool) (xs : List X) → list_any p xs ≡ true → position_or_len p xs < length xs
at_any p [] e = absurd cc
at_any p (x ∷ xs) e = grind (arith, common_steps, at_any p xs)

place_found : (b : Bool) (n index : ℕ) → cond b (Some n) None ≡ Some index → (b ≡ true) × (n ≡ index)
place_found h1 h2 h3 h4 = grind (arith, common_steps)

found : {X : Type 0} (p : X → Bool) (xs : List X) (index : ℕ) → position p xs ≡ Some index → (list_any p xs ≡ true) × (position_or_len p xs ≡ index)
found p xs index e = grind (arith, common_steps, place_found, any_at, ltb-true)

-- ---- names with one more

pub consed : {A : Type 0} (b : Bool) (x y : A) (xs : List A) → cond b (x ∷ xs) (x ∷ xs ++ y ∷ []) ≡ x ∷ cond b xs (xs ++ y ∷ [])
consed h1 h2 h3 h4 = grind (arith, common_steps)

pub equal_bytes : (name : List ℕ) → bytes_eq name name ≡ true
equal_bytes name = (bytes_eq-Decides name name).1 refl

pub known_name : (names : List (List ℕ)) (name : List ℕ) → list_any (bytes_eq name) names ≡ true → with_name names name ≡ names
known_name names name e = rw e refl

-- a name has the number that it had or gets
pub number_stays : (names : List (List ℕ)) (name : List ℕ) → number_in (with_name names name) name ≡ number_in names name
number_stays names name = grind (arith, common_steps, eqb-true, equal_bytes, position_or_len_push)

-- a set of texts with one more has the bytes of these names with one more
pub inserted : {Z : Type 0} (keys : List (String Z)) (key : String Z) → map string_bytes (insert_key string_eq keys key) ≡ with_name (map string_bytes keys) (string_bytes key)
inserted keys key = grind (arith, common_steps, any_of_map, map-append)

-- ---- the index of a name among texts

-- the index of a name that is among them
pub known_place : {Z : Type 0} (keys : List (String Z)) (names : List (List ℕ)) (name : List ℕ) (index : ℕ)
    → names ≡ map string_bytes keys → position (λ key. bytes_eq name (string_bytes key)) keys ≡ Some index
    → (names ≡ with_name names name) × (index ≡ number_in names name)
known_place keys names name index view e = grind (arith, common_steps, found, any_of_map, known_name, place_of_map)

-- the index of a name that was inserted
pub new_place : {Z : Type 0} (keys new_keys : List (String Z)) (key : String Z) (names : List (List ℕ)) (name : List ℕ) (index : ℕ)
    → names ≡ map string_bytes keys → string_bytes key ≡ name → new_keys ≡ insert_key string_eq keys key → index ≡ position_or_len (string_eq key) keys
    → (map string_bytes new_keys ≡ with_name names name) × (index ≡ number_in (map string_bytes new_keys) name)
new_place keys new_keys key names name index view text new e = grind (arith, common_steps, inserted, place_of_map, number_stays)

-- among keys of which no two are equal, a key's index is the one at which it is found
own_place : {K : Type 0} {eq : K → K → Bool} → IsEquivalence eq → (keys : List K) (index : ℕ) (key : K) → IsDistinct eq keys → slice_get keys index ≡ Some key → position_or_len (eq key) keys ≡ index
own_place laws [] index key d e = absurd (true≢false (sym (ap is_some e)))
own_place {K} {eq} laws (k ∷ keys) zero key d e =
    let same : k ≡ key = ap (λ found. unwrap_or found k) e in
    ap (λ b. cond (not b) (1 + position_or_len (eq key) keys) 0) (ap (eq key) same ∙ laws.refl key)
own_place {K} {eq} laws (k ∷ keys) (suc index) key d e =
    let apart = All-from_recursion (λ other. eq k other ≡ false) keys (IsDistinct-head eq k keys d) index key (slice_get_within keys index key e) in
    let other : eq key k ≡ false = laws.symm key k ∙ ap (eq k) (sym (get_or_from_slice_get keys index key key e)) ∙ apart in
    let rest = own_place laws keys index key (IsDistinct-tail eq k keys d) e in
    ap (λ b. cond (not b) (1 + position_or_len (eq key) keys) 0) other ∙ omega (arith, rest)

-- the index of a name that is found at it
pub place_of_key : {Z : Type 0} (keys : List (String Z)) (names : List (List ℕ)) (key : String Z) (index : ℕ)
    → names ≡ map string_bytes keys → IsDistinct string_eq keys → slice_get keys index ≡ Some key
    → (names ≡ with_name names (string_bytes key)) × (index ≡ number_in names (string_bytes key))
place_of_key keys names key index view distinct e =
    let at = own_place string_eq_equiv keys index key distinct e in
    let below = slice_get_within keys index key e in
    known_place keys names (string_bytes key) index view
    (ap (λ b. cond b (Some (position_or_len (string_eq key) keys)) None) (lt-ltb (position_or_len (string_eq key) keys) (length keys) (omega arith)) ∙ ap Some at)

-- what is returned of a name that is found at an index: the index, if it is the name that was asked for
pub place_if_same : {Z : Type 0} (keys : List (String Z)) (names : List (List ℕ)) (name : List ℕ) (key : String Z) (index : ℕ) (same : Bool)
    → names ≡ map string_bytes keys → IsDistinct string_eq keys → slice_get keys index ≡ Some key → IsUtf8 (string_bytes key) → same ≡ bytes_eq (string_bytes key) name
    → IfSome (then_some same index) (IsKnown names name)
place_if_same h1 h2 h3 h4 h5 h6 h7 h8 h9 h10 h11 = grind (arith, common_steps, found, place_of_key, bytes_eq-Decides, is_utf8-from_IsUtf8)

-- ---- a name keeps its number

pub among_more : (names : List (List ℕ)) (name other : List ℕ) → is_among names name ≡ true → is_among (with_name names other) name ≡ true
among_more names name other e = grind (arith, common_steps)

pub number_more : (names : List (List ℕ)) (name other : List ℕ) → is_among names name ≡ true → number_in (with_name names other) name ≡ number_in names name
number_more names name other e = grind (arith, common_steps, eqb-true, at_any, position_or_len_push)

pub among_all : (names others : List (List ℕ)) (name : List ℕ) → is_among names name ≡ true → is_among (fold with_name names others) name ≡ true
among_all names [] name e = e
among_all names (other ∷ others) name e = among_all (with_name names other) others name (among_more names name other e)

pub number_in_all : (names others : List (List ℕ)) (name : List ℕ) → is_among names name ≡ true → number_in (fold with_name names others) name ≡ number_in names name
number_in_all names [] name e = refl
number_in_all names (other ∷ others) name e = number_in_all (with_name names other) others name (among_more names name other e) ∙ number_more names name other e

-- a name is among the names with it
pub among_with : (names : List (List ℕ)) (name : List ℕ) → is_among (with_name names name) name ≡ true
among_with names name = grind (arith, common_steps, list_any-append, or_right, or_left, equal_bytes)

-- names keep their numbers
pub numbers_stay : (names others some : List (List ℕ)) → are_among names some ≡ true → map (number_in (fold with_name names others)) some ≡ map (number_in names) some
numbers_stay names others [] e = refl
numbers_stay names others (name ∷ some) e =
    let h = and_parts (is_among names name) (are_among names some) e in
    ap (λ n. n ∷ map (number_in (fold with_name names others)) some) (number_in_all names others name h.0) ∙ ap (λ ns. number_in names name ∷ ns) (numbers_stay names others some h.1)

-- all names are among themselves
pub all_among : (names some : List (List ℕ)) → list_all (is_among (fold with_name names some)) some ≡ true
all_among names [] = refl
all_among names (name ∷ some) = grind (arith, common_steps, all_among (with_name names name) some, and_from, among_all, among_with)
