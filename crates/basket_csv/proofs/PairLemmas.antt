-- Pairs of an id and a name, one after another.
use Rattle.std.proofs.Common.{◌≡◌, ℕ, zero, suc, ◌+◌, ◌≤◌, ◌<◌, true, false, cond, not, List, [], ◌∷◌, ◌++◌, length, map, drop, take, fold, set, get_or, None, Result, refl, sym, ap, ◌∙◌, subst, arith}
use Rattle.std.proofs.lemmas.Grind.{common_steps}
use Rattle.std.specs.List.{All, flat_map}
use Rattle.std.specs.Result.{OnOk}
use Rattle.std.specs.Str.{is_utf8}
use Rattle.std.proofs.lemmas.Bool.{and_parts}
use Rattle.std.proofs.lemmas.List.{get_or-map, map-append}
use Rattle.std.proofs.lemmas.List.Elements.{All-cons, All-nil}
use Rattle.std.proofs.lemmas.List.Folds.{flat_map-map}
use Rattle.std.proofs.lemmas.List.Sums.{fold-append}
use Rattle.basket_read.specs.declared.fault.ReadFault.{ReadFault}
use Rattle.basket_read.specs.Fimi.{basket_of_numbers, is_nil}
use Rattle.basket_csv.specs.declared.pairs.Pairs.{Pairs}
use Rattle.basket_csv.specs.Csv.{field_in, pair_fault, pair_of, pairs_of, with_pair, gather, names_of_pairs}
use Rattle.basket_csv.specs.Field.{trimmed}
use Rattle.basket_names.specs.Names.{with_name, number_in, are_among, in_order}
use Rattle.basket_csv.specs.Row.{IsKnownPair}
use Rattle.basket_csv.specs.Named.{NamedBasket, are_named}
use Rattle.basket_csv.specs.Pairs.{HasPairs, added_at, numbers_of, pair_names}
use Rattle.basket_csv.proofs.GroupLemmas.{groups_more, ids_more, one_pair, with_group}
use Rattle.basket_csv.proofs.LawLemmas.{Group, by_id}
use Rattle.basket_csv.proofs.NamedLemmas.{groups_named}
use Rattle.basket_csv.proofs.RenamingLemmas.{list_below}
use Rattle.basket_csv.proofs.RowLemmas.{known_some}
use Rattle.basket_names.proofs.theory.Names.{numbers_stay, number_stays}
use Rattle.basket_names.proofs.theory.Together.{numbers_at}
use Rattle.basket_sets.specs.Itemset.{AllBelow}

-- ---- numbers that were added to a group

pub group_known : {A : Type 0} (f : A → List ℕ) (groups : List A) (index : ℕ) (numbers : List ℕ) (old new : A) → index < length groups → old ≡ get_or groups index old → f new ≡ f old ++ numbers
    → map f (set groups index new) ≡ added_at (map f groups) index numbers
group_known f [] index numbers old new below e n = absurd (omega arith)
group_known f (group ∷ groups) zero numbers old new below e n = ap (λ x. x ∷ map f groups) (n ∙ ap (λ g. f g ++ numbers) e)
group_known f (group ∷ groups) (suc index) numbers old new below e n = ap (λ gs. f group ∷ gs) (group_known f groups index numbers old new (omega arith) e n)

pub group_new : {A : Type 0} (f : A → List ℕ) (groups : List A) (index : ℕ) (numbers : List ℕ) (new : A) → length groups ≤ index → f new ≡ numbers
    → map f (groups ++ new ∷ []) ≡ added_at (map f groups) index numbers
group_new f [] index numbers new all n = ap (λ g. g ∷ []) n
group_new f (group ∷ groups) zero numbers new all n = absurd (omega arith)
group_new f (group ∷ groups) (suc index) numbers new all n = ap (λ gs. f group ∷ gs) (group_new f groups index numbers new (omega arith) n)

-- ---- groups of names

abbrev pub baskets_of : List Group → List NamedBasket
baskets_of groups = map (λ group. (group.1, 1)) groups

pub groups_stay : (names others : List (List ℕ)) (groups : List Group) → are_named names (baskets_of groups) ≡ true → numbers_of (fold with_name names others) groups ≡ numbers_of names groups
groups_stay names others [] e = refl
groups_stay names others (group ∷ groups) e =
    let h = and_parts (are_among names group.1) (are_named names (baskets_of groups)) e in
    ap (λ g. g ∷ numbers_of (fold with_name names others) groups) (numbers_stay names others group.1 h.0) ∙ ap (λ gs. map (number_in names) group.1 ∷ gs) (groups_stay names others groups h.1)

-- ---- what was read, with one pair more

gather_more : (pairs : List (List ℕ × List ℕ)) (id name : List ℕ) → gather (pairs ++ (id, name) ∷ []) ≡ with_group (gather pairs) (id, name ∷ [])
gather_more pairs id name = fold-append with_pair [] pairs ((id, name) ∷ []) ∙ sym (one_pair (gather pairs) id name)

-- each name of a group is among those of the pairs
pub all_named : (names : List (List ℕ)) (pairs : List (List ℕ × List ℕ)) → are_among names (map (λ pair. pair.1) pairs) ≡ true → are_named names (baskets_of (gather pairs)) ≡ true
all_named names pairs e = ap (λ groups. are_named names (baskets_of groups)) (by_id pairs) ∙ groups_named names pairs (in_order (map (λ pair. pair.0) pairs)) e

pub paired : (old new : Pairs) (names more : List (List ℕ)) (pairs : List (List ℕ × List ℕ)) (id name : List ℕ) (number index : ℕ)
    → more ≡ with_name names name → number ≡ number_in more name
    → new.ids ≡ with_name old.ids id → index ≡ number_in new.ids id
    → map (λ group. group.items) new.groups.items ≡ added_at (map (λ group. group.items) old.groups.items) index (number ∷ [])
    → are_among names (map (λ pair. pair.1) pairs) ≡ true → HasPairs old names pairs → HasPairs new more (pairs ++ (id, name) ∷ [])
paired old new names more pairs id name number index a b c d e among h =
    let all = gather_more pairs id name in
    let ids = map (λ g. g.0) (gather pairs) in
    let ids_after : new.ids ≡ with_name ids id = c ∙ ap (λ is. with_name is id) h.ids in
    let at_index : index ≡ number_in ids id = d ∙ ap (λ is. number_in is id) ids_after ∙ number_stays ids id in
    let stay : map (λ group. group.items) old.groups.items ≡ numbers_of more (gather pairs) =
    h.groups ∙ sym (groups_stay names (name ∷ []) (gather pairs) (all_named names pairs among)) ∙ ap (λ ns. numbers_of ns (gather pairs)) (sym a) in
    record {
      ids = ids_after ∙ ids_more (gather pairs) (id, name ∷ []) ∙ ap (map (λ g. g.0)) (sym all);
      groups = e ∙ ap (λ gs. added_at gs index (number ∷ [])) stay ∙ ap (λ p. added_at (numbers_of more (gather pairs)) p (number ∷ [])) at_index
          ∙ ap (λ n. added_at (numbers_of more (gather pairs)) (number_in ids id) (n ∷ [])) b
          ∙ groups_more more (gather pairs) (id, name ∷ []) ∙ ap (λ gs. numbers_of more gs) (sym all);
    }

pub pairs_both : (rows more : List (List (List ℕ))) → pairs_of (rows ++ more) ≡ pairs_of rows ++ pairs_of more
pairs_both rows more = grind (arith, common_steps)

pairs_more : (rows : List (List (List ℕ))) (row : List (List ℕ)) → is_nil (trimmed (field_in row 1)) ≡ false → pairs_of (rows ++ row ∷ []) ≡ pairs_of rows ++ pair_of row ∷ []
pairs_more rows row some = pairs_both rows (row ∷ []) ∙ ap (λ b. pairs_of rows ++ cond (not b) (pair_of row ∷ []) []) some

-- the names of records are those of their pairs
pub names_of_rows : (rows : List (List (List ℕ))) → flat_map pair_names rows ≡ map (λ pair. pair.1) (pairs_of rows)
names_of_rows [] = refl
names_of_rows (row ∷ rows) =
    ap (λ ns. pair_names row ++ ns) (names_of_rows rows) ∙ sym (map-append (λ pair. pair.1) (pairs_of (row ∷ [])) (pairs_of rows)) ∙ ap (map (λ pair. pair.1)) (sym (pairs_both (row ∷ []) rows))

pub names_of_pairs_are : (known names : List (List ℕ)) (rows : List (List (List ℕ))) → names ≡ in_order (known ++ flat_map pair_names rows) → names ≡ names_of_pairs known (pairs_of rows)
names_of_pairs_are known names rows are = are ∙ ap (λ ns. in_order (known ++ ns)) (names_of_rows rows)

-- a record without a name has no pair
pub no_pair : (rows : List (List (List ℕ))) (row : List (List ℕ)) → is_nil (trimmed (field_in row 1)) ≡ true → (pairs_of (rows ++ row ∷ []) ≡ pairs_of rows) × (pair_names row ≡ [])
no_pair rows row none = grind (arith, common_steps, pairs_both)

pub one_name : (row : List (List ℕ)) → is_nil (trimmed (field_in row 1)) ≡ false → pair_names row ≡ trimmed (field_in row 1) ∷ []
one_name row some = grind (arith, common_steps)

-- a record whose pair was added
pub pair_added : {X : Type 0} (new : Pairs) (names : List (List ℕ)) (rows : List (List (List ℕ))) (row : List (List ℕ)) (id name : List ℕ) (r : Result X ReadFault)
    → id ≡ trimmed (field_in row 0) → name ≡ trimmed (field_in row 1) → is_nil (trimmed (field_in row 1)) ≡ false
    → OnOk r (HasPairs new names (pairs_of rows ++ (id, name) ∷ [])) → OnOk r (HasPairs new names (pairs_of (rows ++ row ∷ [])))
pair_added new names rows row id name r a b some h = grind (arith, common_steps)

-- a record of a known id and a known name, whose numbers were added
pub known_paired : (old new : Pairs) (names : List (List ℕ)) (rows : List (List (List ℕ))) (row : List (List ℕ)) (index number : ℕ)
    → new.ids ≡ old.ids → map (λ group. group.items) new.groups.items ≡ added_at (map (λ group. group.items) old.groups.items) index (number ∷ [])
    → IsKnownPair old.ids names row index number → are_among names (flat_map pair_names rows) ≡ true → HasPairs old names (pairs_of rows) → HasPairs new names (pairs_of (rows ++ row ∷ []))
known_paired old new names rows row index number same groups pair among h =
    let id = pair.id in
    let id_is = sym id.trimmed in
    let name = pair.name in
    let name_is = sym name.trimmed in
    let all = pairs_more rows row (known_some names (field_in row 1) number name) in
    subst (HasPairs new names) (sym all)
    (paired old new names names (pairs_of rows) (trimmed (field_in row 0)) (trimmed (field_in row 1)) number index
    (name.known.stay ∙ ap (with_name names) name_is) (name.known.index ∙ ap (number_in names) name_is)
    (same ∙ id.known.stay ∙ ap (with_name old.ids) id_is) (id.known.index ∙ ap (λ is. number_in is (field_in row 0)) (sym same) ∙ ap (number_in new.ids) id_is)
    groups (ap (are_among names) (sym (names_of_rows rows)) ∙ among) h)

-- and its name is known
pub known_names : (ids names : List (List ℕ)) (row : List (List ℕ)) (index number : ℕ) → IsKnownPair ids names row index number → names ≡ fold with_name names (pair_names row)
known_names ids names row index number pair =
    let name = pair.name in
    name.known.stay ∙ ap (with_name names) (sym name.trimmed) ∙ ap (fold with_name names) (sym (one_name row (known_some names (field_in row 1) number name)))

-- ---- other names

module _ (own all : List (List ℕ)) (numbers : List ℕ) (are : numbers ≡ map (number_in all) own) where
  groups_again : (groups : List Group) → are_named own (baskets_of groups) ≡ true → map (map (λ number. get_or numbers number 0)) (numbers_of own groups) ≡ numbers_of all groups
  groups_again [] among = refl
  groups_again (group ∷ groups) among =
      let both = and_parts (are_among own group.1) (are_named own (baskets_of groups)) among in
      λ i. (ap (λ ns. map (λ number. get_or ns number 0) (map (number_in own) group.1)) are ∙ numbers_at all own group.1 both.0) i ∷ groups_again groups both.1 i

  groups_below : {A : Type 0} (f : A → List ℕ) (groups : List A) (gathered : List Group) → map f groups ≡ numbers_of own gathered → are_named own (baskets_of gathered) ≡ true
      → All (λ group. AllBelow (length numbers) (f group)) groups
  groups_below f [] gathered e among = All-nil (λ group. AllBelow (length numbers) (f group))
  groups_below f (one ∷ groups) [] e among = absurd cc
  groups_below f (one ∷ groups) (group ∷ gathered) e among =
      let both = and_parts (are_among own group.1) (are_named own (baskets_of gathered)) among in
      let head : f one ≡ map (number_in own) group.1 = cc in
      let tail : map f groups ≡ numbers_of own gathered = cc in
      All-cons (λ group. AllBelow (length numbers) (f group)) one groups (subst (AllBelow (length numbers)) (sym head) (list_below own all numbers are group.1 both.0)) (groups_below f groups gathered tail both.1)

  module _ (rows : List (List (List ℕ))) (among : are_among own (flat_map pair_names rows) ≡ true) where
    named : are_named own (baskets_of (gather (pairs_of rows))) ≡ true
    named = all_named own (pairs_of rows) (ap (are_among own) (sym (names_of_rows rows)) ∙ among)

    pub pairs_again : map (map (λ number. get_or numbers number 0)) (numbers_of own (gather (pairs_of rows))) ≡ numbers_of all (gather (pairs_of rows))
    pairs_again = groups_again (gather (pairs_of rows)) named

    pub pairs_below : {A : Type 0} (f : A → List ℕ) (groups : List A) → map f groups ≡ numbers_of own (gather (pairs_of rows)) → All (λ group. AllBelow (length numbers) (f group)) groups
    pairs_below f groups e = groups_below f groups (gather (pairs_of rows)) e named

-- ---- groups one by one

module _ {A : Type 0} (f : A → List ℕ) (h : List ℕ → List ℕ) where
  there : (groups : List A) (k : ℕ) (d : A) → k < length groups → get_or (map h (map f (take k groups)) ++ map f (drop k groups)) k [] ≡ f (get_or groups k d)
  there [] k d below = absurd (omega arith)
  there (group ∷ groups) zero d below = refl
  there (group ∷ groups) (suc k) d below = there groups k d (omega arith)

  -- the group at the index that the renaming has come to is as it was
  pub group_there : (groups now : List A) (k : ℕ) (d : A) → k < length groups → length now ≡ length groups → map f now ≡ map h (map f (take k groups)) ++ map f (drop k groups) → f (get_or now k d) ≡ f (get_or groups k d)
  group_there groups now k d below long so_far = sym (get_or-map f now k d [] (omega (arith, long))) ∙ ap (λ l. get_or l k []) so_far ∙ there groups k d below

  put : (groups : List A) (k : ℕ) (d : A) → k < length groups → set (map h (map f (take k groups)) ++ map f (drop k groups)) k (h (f (get_or groups k d))) ≡ map h (map f (take (suc k) groups)) ++ map f (drop (suc k) groups)
  put [] k d below = absurd (omega arith)
  put (group ∷ groups) zero d below = refl
  put (group ∷ groups) (suc k) d below = ap (λ l. h (f group) ∷ l) (put groups k d (omega arith))

  set_images : (groups : List A) (k : ℕ) (new : A) → map f (set groups k new) ≡ set (map f groups) k (f new)
  set_images [] k new = refl
  set_images (group ∷ groups) zero new = refl
  set_images (group ∷ groups) (suc k) new = ap (λ l. f group ∷ l) (set_images groups k new)

  -- one group more is renamed where it lies
  pub group_more : (groups now : List A) (k : ℕ) (d new : A) → k < length groups → map f now ≡ map h (map f (take k groups)) ++ map f (drop k groups) → f new ≡ h (f (get_or groups k d))
      → map f (set now k new) ≡ map h (map f (take (k + 1) groups)) ++ map f (drop (k + 1) groups)
  group_more groups now k d new below so_far is =
      let one : k + 1 ≡ suc k = omega arith in
      set_images now k new ∙ (λ i. set (so_far i) k (is i)) ∙ put groups k d below ∙ ap (λ n. map h (map f (take n groups)) ++ map f (drop n groups)) (sym one)

-- ---- the baskets of the groups

pub all_baskets : {A : Type 0} (f : A → List ℕ) (groups : List A) (names : List (List ℕ)) (gathered : List (List ℕ × List (List ℕ))) → map f groups ≡ numbers_of names gathered
    → flat_map (λ group. basket_of_numbers (f group) 1) groups ≡ flat_map (λ group. basket_of_numbers (map (number_in names) group.1) 1) gathered
all_baskets f groups names gathered e =
    sym (flat_map-map (λ numbers. basket_of_numbers numbers 1) f groups) ∙ ap (flat_map (λ numbers. basket_of_numbers numbers 1)) e ∙ flat_map-map (λ numbers. basket_of_numbers numbers 1) (λ group. map (number_in names) group.1) gathered

-- ---- records of two fields

pub no_fault : (nth : ℕ) (row : List (List ℕ)) → length row ≡ 2 → is_utf8 (field_in row 0) ≡ true → is_utf8 (field_in row 1) ≡ true → pair_fault nth row ≡ None
no_fault h1 h2 h3 h4 h5 = grind (arith, common_steps)

-- whether a record has a fault does not depend on its number
pub any_number : (n m : ℕ) (row : List (List ℕ)) → pair_fault n row ≡ None → pair_fault m row ≡ None
any_number n m row e = grind (arith, common_steps)
