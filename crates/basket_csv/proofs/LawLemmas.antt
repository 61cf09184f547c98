-- Pairs are gathered by their ids.
use Rattle.std.proofs.Common.{◌≡◌, ℕ, Bool, true, false, cond, ◌||◌, List, [], ◌∷◌, ◌++◌, map, filter, fold, refl, sym, ap, ◌∙◌, subst, append-nil, append_assoc, arith}
use Rattle.std.proofs.lemmas.Grind.{common_steps}
use Rattle.std.specs.Str.{bytes_eq}
use Rattle.std.proofs.lemmas.Bool.{or_parts, or_from, false_from_ne_true, both_ways}
use Rattle.std.proofs.lemmas.List.{map-append}
use Rattle.std.proofs.lemmas.List.Folds.{list_any-append}
use Rattle.std.proofs.lemmas.List.Sums.{fold-append}
use Rattle.std.proofs.lemmas.Slice.Eq.{bytes_eq-Decides}
use Rattle.basket_csv.specs.Csv.{with_pair, gather}
use Rattle.basket_csv.specs.Laws.{names_with}
use Rattle.basket_names.specs.Names.{with_name, in_order, is_among}
use Rattle.basket_names.proofs.theory.Names.{among_all, consed, among_with, equal_bytes}

abbrev pub Pair : Type 0
Pair = List ℕ × List ℕ

abbrev pub Group : Type 0
Group = List ℕ × List (List ℕ)

-- an id with names, and with its names in some pairs
abbrev named : List ℕ → List (List ℕ) → Group
named id names = (id, names)

abbrev group_of : List Pair → List ℕ → Group
group_of pairs id = (id, names_with pairs id)

-- ---- equal bytes

pub equal : (a b : List ℕ) → bytes_eq a b ≡ true → a ≡ b
equal a b e = (bytes_eq-Decides a b).0 e

pub other_way : (a b : List ℕ) → bytes_eq a b ≡ false → bytes_eq b a ≡ false
other_way a b e = false_from_ne_true (bytes_eq b a) (λ f. both_ways (bytes_eq a b) e ((bytes_eq-Decides a b).1 (sym (equal b a f))))

-- ---- ids of which each is there once

abbrev pub Distinct : List (List ℕ) → Type 0
Distinct [] = Unit {0}
Distinct (id ∷ ids) = (is_among ids id ≡ false) × Distinct ids

distinct_last : (ids : List (List ℕ)) (id : List ℕ) → is_among ids id ≡ false → Distinct ids → Distinct (ids ++ id ∷ [])
distinct_last [] id e d = (refl, tt)
distinct_last (first ∷ ids) id e d =
    let h = or_parts (bytes_eq id first) (is_among ids id) e in
    (list_any-append (bytes_eq first) ids (id ∷ []) ∙ or_from (is_among ids first) (bytes_eq first id || false) d.0 (or_from (bytes_eq first id) false (other_way id first h.0) refl), distinct_last ids id h.1 d.1)

pub distinct_with : (ids : List (List ℕ)) (id : List ℕ) → Distinct ids → Distinct (with_name ids id)
distinct_with ids id d = grind (arith, common_steps, distinct_last)

pub distinct_all : (ids more : List (List ℕ)) → Distinct ids → Distinct (fold with_name ids more)
distinct_all ids [] d = d
distinct_all ids (id ∷ more) d = distinct_all (with_name ids id) more (distinct_with ids id d)

-- ---- the names of an id

names_with_more : (done : List Pair) (pair : Pair) (id : List ℕ) → names_with (done ++ pair ∷ []) id ≡ names_with done id ++ cond (bytes_eq id pair.0) (pair.1 ∷ []) []
names_with_more done pair id = grind (arith, common_steps)

with_same : (done : List Pair) (pair : Pair) (id : List ℕ) → bytes_eq id pair.0 ≡ true → names_with (done ++ pair ∷ []) id ≡ names_with done id ++ pair.1 ∷ []
with_same done pair id e = names_with_more done pair id ∙ ap (λ b. names_with done id ++ cond b (pair.1 ∷ []) []) e

with_other : (done : List Pair) (pair : Pair) (id : List ℕ) → bytes_eq id pair.0 ≡ false → names_with (done ++ pair ∷ []) id ≡ names_with done id
with_other done pair id e = names_with_more done pair id ∙ ap (λ b. names_with done id ++ cond b (pair.1 ∷ []) []) e ∙ append-nil (names_with done id)

-- an id that is not there has no names
no_names : (ids : List (List ℕ)) (done : List Pair) (id : List ℕ) → is_among (fold with_name ids (map (λ p. p.0) done)) id ≡ false → names_with done id ≡ []
no_names ids [] id e = refl
no_names ids (pair ∷ done) id e = at (bytes_eq id pair.0) refl (no_names (with_name ids pair.0) done id e)
  where
    at : (b : Bool) → bytes_eq id pair.0 ≡ b → names_with done id ≡ [] → map (λ (p : Pair). p.1) (cond b (pair ∷ filter (λ p. bytes_eq id p.0) done) (filter (λ p. bytes_eq id p.0) done)) ≡ []
    at true f later =
        let same = equal id pair.0 f in
        let is = among_all (with_name ids pair.0) (map (λ p. p.0) done) id (ap (is_among (with_name ids pair.0)) same ∙ among_with ids pair.0) in
        absurd (both_ways (is_among (fold with_name (with_name ids pair.0) (map (λ p. p.0) done)) id) e is)
    at false f later = later

-- ---- one pair more

others_stay : (done : List Pair) (pair : Pair) (ids : List (List ℕ)) → is_among ids pair.0 ≡ false → map (group_of (done ++ pair ∷ [])) ids ≡ map (group_of done) ids
others_stay done pair [] e = refl
others_stay done pair (id ∷ ids) e =
    let h = or_parts (bytes_eq pair.0 id) (is_among ids pair.0) e in
    ap (λ ns. named id ns ∷ map (group_of (done ++ pair ∷ [])) ids) (with_other done pair id (other_way pair.0 id h.0)) ∙ ap (λ gs. group_of done id ∷ gs) (others_stay done pair ids h.1)

pair_more : (done : List Pair) (pair : Pair) (ids : List (List ℕ)) → Distinct ids → (is_among ids pair.0 ≡ false → names_with done pair.0 ≡ [])
    → with_pair (map (group_of done) ids) pair ≡ map (group_of (done ++ pair ∷ [])) (with_name ids pair.0)
pair_more done pair [] d none = ap (λ ns. named pair.0 ns ∷ []) (sym (with_same done pair pair.0 (equal_bytes pair.0) ∙ ap (λ l. l ++ pair.1 ∷ []) (none refl)))
pair_more done pair (id ∷ ids) d none =
    at (bytes_eq pair.0 id) refl (λ e. pair_more done pair ids d.1 (λ f. none (or_from (bytes_eq pair.0 id) (is_among ids pair.0) e f)))
  where
    at : (b : Bool) → bytes_eq pair.0 id ≡ b
        → (bytes_eq pair.0 id ≡ false → with_pair (map (group_of done) ids) pair ≡ map (group_of (done ++ pair ∷ [])) (with_name ids pair.0))
        → cond b (named id (names_with done id ++ pair.1 ∷ []) ∷ map (group_of done) ids) (group_of done id ∷ with_pair (map (group_of done) ids) pair)
        ≡ map (group_of (done ++ pair ∷ [])) (cond (b || is_among ids pair.0) (id ∷ ids) (id ∷ ids ++ pair.0 ∷ []))
    at true e later =
        let same = equal pair.0 id e in
        let alone : is_among ids pair.0 ≡ false = ap (is_among ids) same ∙ d.0 in
        sym (ap (λ ns. named id ns ∷ map (group_of (done ++ pair ∷ [])) ids) (with_same done pair id (ap (bytes_eq id) same ∙ equal_bytes id))
        ∙ ap (λ gs. named id (names_with done id ++ pair.1 ∷ []) ∷ gs) (others_stay done pair ids alone))
    at false e later =
        ap (λ gs. group_of done id ∷ gs) (later e)
        ∙ ap (λ ns. named id ns ∷ map (group_of (done ++ pair ∷ [])) (with_name ids pair.0)) (sym (with_other done pair id (other_way pair.0 id e)))
        ∙ ap (map (group_of (done ++ pair ∷ []))) (sym (consed (is_among ids pair.0) id pair.0 ids))

-- ---- all pairs

abbrev IsById : List Pair → Type 0
IsById pairs = gather pairs ≡ map (group_of pairs) (in_order (map (λ p. p.0) pairs))

one_more : (done : List Pair) (pair : Pair) → IsById done → IsById (done ++ pair ∷ [])
one_more done pair e =
    let ids = in_order (map (λ (p : Pair). p.0) done) in
    let new : in_order (map (λ (p : Pair). p.0) (done ++ pair ∷ [])) ≡ with_name ids pair.0 = ap in_order (map-append (λ p. p.0) done (pair ∷ [])) ∙ fold-append with_name [] (map (λ p. p.0) done) (pair.0 ∷ []) in
    fold-append with_pair [] done (pair ∷ []) ∙ ap (λ groups. with_pair groups pair) e
    ∙ pair_more done pair ids (distinct_all [] (map (λ p. p.0) done) tt) (no_names [] done pair.0)
    ∙ ap (map (group_of (done ++ pair ∷ []))) (sym new)

all_more : (done rest : List Pair) → IsById done → IsById (done ++ rest)
all_more done [] e = subst IsById (sym (append-nil done)) e
all_more done (pair ∷ rest) e = subst IsById (append_assoc done (pair ∷ []) rest) (all_more (done ++ pair ∷ []) rest (one_more done pair e))

pub by_id : (pairs : List Pair) → IsById pairs
by_id pairs = all_more [] pairs refl
