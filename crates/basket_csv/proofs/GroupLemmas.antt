-- Groups of names by ids, one after another.
use Rattle.std.proofs.Common.{◌≡◌, ℕ, zero, suc, ◌<◌, Bool, true, false, cond, ◌||◌, List, [], ◌∷◌, ◌++◌, map, length, fold, get_or, take, refl, sym, ap, ◌∙◌, subst, arith}
use Rattle.std.proofs.lemmas.Grind.{common_steps}
use Rattle.std.specs.Str.{bytes_eq}
use Rattle.std.proofs.lemmas.Bool.{both_ways, or_parts}
use Rattle.std.proofs.lemmas.List.Sums.{fold-append}
use Rattle.basket_csv.specs.Csv.{gather, with_pair}
use Rattle.basket_names.specs.Names.{is_among, number_in, with_name}
use Rattle.basket_csv.specs.Pairs.{added_at, numbers_of}
use Rattle.basket_csv.proofs.LawLemmas.{Distinct, Group, Pair, distinct_with, equal, other_way}
use Rattle.basket_names.proofs.theory.Names.{among_more, among_with, equal_bytes, number_in_all, number_stays}

abbrev pub ids_of : List Group → List (List ℕ)
ids_of groups = map (λ group. group.0) groups

-- ---- one group more

-- groups and one more: its names join those of its id, which comes last if it is new
abbrev pub with_group : List Group → Group → List Group
with_group [] more = more ∷ []
with_group (group ∷ groups) more = cond (bytes_eq more.0 group.0) ((group.0, group.1 ++ more.1) ∷ groups) (group ∷ with_group groups more)

pub one_pair : (groups : List Group) (id name : List ℕ) → with_group groups (id, name ∷ []) ≡ with_pair groups (id, name)
one_pair [] id name = refl
one_pair (group ∷ groups) id name = ap (λ gs. cond (bytes_eq id group.0) ((group.0, group.1 ++ name ∷ []) ∷ groups) (group ∷ gs)) (one_pair groups id name)

pub ids_more : (groups : List Group) (more : Group) → with_name (ids_of groups) more.0 ≡ ids_of (with_group groups more)
ids_more [] more = refl
ids_more (group ∷ groups) more = grind (arith, common_steps, ids_more groups more)

pub groups_more : (names : List (List ℕ)) (groups : List Group) (more : Group)
    → added_at (numbers_of names groups) (number_in (ids_of groups) more.0) (map (number_in names) more.1) ≡ numbers_of names (with_group groups more)
groups_more names [] more = refl
groups_more names (group ∷ groups) more = grind (arith, common_steps, groups_more names groups more)

-- the ids with those of more groups
pub ids_with : (groups more : List Group) → ids_of (fold with_group groups more) ≡ fold with_name (ids_of groups) (ids_of more)
ids_with groups [] = refl
ids_with groups (group ∷ more) = ids_with (with_group groups group) more ∙ ap (λ ids. fold with_name ids (ids_of more)) (sym (ids_more groups group))

-- the number of a group's id is the same before those of the groups after it
pub id_stays : (ids : List (List ℕ)) (groups : List Group) (at : ℕ) → at < length groups
    → number_in (fold with_name ids (ids_of groups)) (get_or groups at ([], [])).0 ≡ number_in (fold with_name ids (ids_of (take at groups))) (get_or groups at ([], [])).0
id_stays ids [] at below = absurd (omega arith)
id_stays ids (group ∷ groups) zero below = number_in_all (with_name ids group.0) (ids_of groups) group.0 (among_with ids group.0) ∙ number_stays ids group.0
id_stays ids (group ∷ groups) (suc at) below = id_stays (with_name ids group.0) groups at (omega arith)

-- ---- groups and a pair in another order

-- a pair of a known id, and a group of another id
swapped : (groups : List Group) (id name : List ℕ) (more : Group) → bytes_eq more.0 id ≡ false → is_among (ids_of groups) id ≡ true
    → with_group (with_pair groups (id, name)) more ≡ with_pair (with_group groups more) (id, name)
swapped [] id name more apart known = absurd cc
swapped (group ∷ groups) id name more apart known = at (bytes_eq id group.0) (bytes_eq more.0 group.0) refl refl (swapped groups id name more apart)
  where
    at : (a b : Bool) → bytes_eq id group.0 ≡ a → bytes_eq more.0 group.0 ≡ b → (is_among (ids_of groups) id ≡ true → with_group (with_pair groups (id, name)) more ≡ with_pair (with_group groups more) (id, name))
        → with_group (cond a ((group.0, group.1 ++ name ∷ []) ∷ groups) (group ∷ with_pair groups (id, name))) more
        ≡ with_pair (cond b ((group.0, group.1 ++ more.1) ∷ groups) (group ∷ with_group groups more)) (id, name)
    at true true e f later = absurd (both_ways (bytes_eq more.0 group.0) (subst (λ i. bytes_eq more.0 i ≡ false) (equal id group.0 e) apart) f)
    at true false e f later = rw (e, f) refl
    at false true e f later = rw (e, f) refl
    at false false e f later = rw (e, f) (ap (λ gs. group ∷ gs) (later (ap (λ b. b || is_among (ids_of groups) id) (sym e) ∙ known)))

-- and more groups of other ids
swapped_all : (more groups : List Group) (id name : List ℕ) → is_among (ids_of more) id ≡ false → is_among (ids_of groups) id ≡ true
    → fold with_group (with_pair groups (id, name)) more ≡ with_pair (fold with_group groups more) (id, name)
swapped_all [] groups id name none known = refl
swapped_all (group ∷ more) groups id name none known =
    let h = or_parts (bytes_eq id group.0) (is_among (ids_of more) id) none in
    let still : is_among (ids_of (with_group groups group)) id ≡ true = ap (λ ids. is_among ids id) (sym (ids_more groups group)) ∙ among_more (ids_of groups) id group.0 known in
    ap (λ gs. fold with_group gs more) (swapped groups id name group (other_way id group.0 h.0) known) ∙ swapped_all more (with_group groups group) id name h.1 still

-- a group with one name more
then_pair : (groups : List Group) (more : Group) (name : List ℕ) → with_group groups (more.0, more.1 ++ name ∷ []) ≡ with_pair (with_group groups more) (more.0, name)
then_pair [] more name = rw (equal_bytes more.0) refl
then_pair (group ∷ groups) more name = grind (arith, common_steps, then_pair groups more name)

-- ---- groups of pairs and of more pairs

-- one pair more
pair_after : (groups more : List Group) (id name : List ℕ) → Distinct (ids_of more) → fold with_group groups (with_pair more (id, name)) ≡ with_pair (fold with_group groups more) (id, name)
pair_after groups [] id name distinct = one_pair groups id name
pair_after groups (group ∷ more) id name distinct = at (bytes_eq id group.0) refl (pair_after (with_group groups group) more id name distinct.1)
  where
    known : is_among (ids_of (with_group groups group)) group.0 ≡ true
    known = ap (λ ids. is_among ids group.0) (sym (ids_more groups group)) ∙ among_with (ids_of groups) group.0

    at : (b : Bool) → bytes_eq id group.0 ≡ b → fold with_group (with_group groups group) (with_pair more (id, name)) ≡ with_pair (fold with_group (with_group groups group) more) (id, name)
        → fold with_group groups (cond b ((group.0, group.1 ++ name ∷ []) ∷ more) (group ∷ with_pair more (id, name))) ≡ with_pair (fold with_group (with_group groups group) more) (id, name)
    at true e later =
        ap (λ gs. fold with_group gs more) (then_pair groups group name) ∙ swapped_all more (with_group groups group) group.0 name distinct.0 known
        ∙ ap (λ i. with_pair (fold with_group (with_group groups group) more) (i, name)) (sym (equal id group.0 e))
    at false e later = later

pairs_after : (pairs : List Pair) (groups more : List Group) → Distinct (ids_of more) → fold with_group groups (fold with_pair more pairs) ≡ fold with_pair (fold with_group groups more) pairs
pairs_after [] groups more distinct = refl
pairs_after ((id, name) ∷ pairs) groups more distinct =
    let ids : with_name (ids_of more) id ≡ ids_of (with_pair more (id, name)) = ids_more more (id, name ∷ []) ∙ ap ids_of (one_pair more id name) in
    pairs_after pairs groups (with_pair more (id, name)) (subst Distinct ids (distinct_with (ids_of more) id distinct))
    ∙ ap (λ gs. fold with_pair gs pairs) (pair_after groups more id name distinct)

-- pairs that were gathered apart
pub gathered_apart : (pairs more : List Pair) → fold with_group (gather pairs) (gather more) ≡ gather (pairs ++ more)
gathered_apart pairs more = pairs_after more (gather pairs) [] tt ∙ sym (fold-append with_pair [] pairs more)
