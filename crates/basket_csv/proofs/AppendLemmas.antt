-- What was read of pairs and of those that come after them.
use Rattle.std.proofs.Common.{◌≡◌, ℕ, ◌+◌, ◌≤◌, ◌<◌, List, [], ◌∷◌, ◌++◌, map, length, fold, get_or, take, refl, sym, ap, ◌∙◌, arith}
use Rattle.std.proofs.lemmas.Grind.{common_steps}
use Rattle.std.proofs.lemmas.List.{get_or-map, length-map, nil_from_length, take_all, take_more}
use Rattle.std.proofs.lemmas.List.Sums.{fold-append}
use Rattle.basket_csv.specs.declared.pairs.Pairs.{Pairs}
use Rattle.basket_csv.specs.Csv.{gather}
use Rattle.basket_names.specs.Names.{in_order, number_in, with_name}
use Rattle.basket_csv.specs.Pairs.{HasPairs, added_at, numbers_of}
use Rattle.basket_csv.proofs.GroupLemmas.{gathered_apart, groups_more, id_stays, ids_of, ids_with, with_group}
use Rattle.basket_csv.proofs.LawLemmas.{Group, Pair, by_id}
use Rattle.basket_names.proofs.theory.Names.{among_all, among_with}

module _ (names : List (List ℕ)) (pairs more : List Pair) where
  -- the ids are those of all pairs, and the groups those of the pairs and of so many groups of the others
  pub record Joins (now : Pairs) (at : ℕ) : Type 0 where
    pub ids : now.ids ≡ ids_of (gather (pairs ++ more))
    pub groups : map (λ group. group.items) now.groups.items ≡ numbers_of names (fold with_group (gather pairs) (take at (gather more)))

  pub joins_first : (old new later : Pairs) → HasPairs old names pairs → HasPairs later names more → new.ids ≡ fold with_name old.ids later.ids → new.groups ≡ old.groups → Joins new 0
  joins_first old new later has own ids groups =
      record {
        ids = ids ∙ ap (λ is. fold with_name is later.ids) has.ids ∙ ap (fold with_name (ids_of (gather pairs))) own.ids
            ∙ sym (ids_with (gather pairs) (gather more)) ∙ ap ids_of (gathered_apart pairs more);
        groups = ap (λ gs. map (λ group. group.items) gs.items) groups ∙ has.groups;
      }

  -- as many groups as ids
  pub as_many : (later : Pairs) → HasPairs later names more → length (gather more) ≡ length later.groups.items
  as_many later own = grind (arith, common_steps)

  module _ (later : Pairs) (own : HasPairs later names more) (at : ℕ) (within : at < length later.groups.items) where
    abbrev group : Group
    group = get_or (gather more) at ([], [])

    inside : at < length (gather more)
    inside = omega (arith, as_many later own)

    pub id_within : (indexes : List ℕ) → length indexes ≡ length later.ids → at < length indexes
    id_within indexes long = omega (arith, long, inside, ap length own.ids, length-map (gather more) (λ (group : Group). group.0))

    pub joins_more : (first now new : Pairs) (items indexes : List ℕ) (index : ℕ) → items ≡ get_or (map (λ group. group.items) later.groups.items) at [] → indexes ≡ map (number_in first.ids) later.ids
        → index ≡ get_or indexes at index → new.ids ≡ now.ids
        → map (λ group. group.items) new.groups.items ≡ added_at (map (λ group. group.items) now.groups.items) index items → Joins first 0 → Joins now at → Joins new (at + 1)
    joins_more first now new items indexes index is indexes_are index_is same_ids added begun joins =
        let so_far = fold with_group (gather pairs) (take at (gather more)) in
        let numbers : items ≡ map (number_in names) group.1 = is ∙ ap (λ gs. get_or gs at []) own.groups ∙ get_or-map (λ (group : Group). map (number_in names) group.1) (gather more) at ([], []) [] inside in
        let ids_are : indexes ≡ map (number_in first.ids) (ids_of (gather more)) = indexes_are ∙ ap (map (number_in first.ids)) own.ids in
        let below : at < length (ids_of (gather more)) = omega (arith, inside, length-map (gather more) (λ (group : Group). group.0)) in
        let at_id : index ≡ number_in (ids_of so_far) group.0 =
        index_is ∙ ap (λ ps. get_or ps at index) ids_are ∙ get_or-map (number_in first.ids) (ids_of (gather more)) at [] index below
        ∙ ap (number_in first.ids) (get_or-map (λ (group : Group). group.0) (gather more) at ([], []) [] inside)
        ∙ ap (λ ids. number_in ids group.0) (begun.ids ∙ ap ids_of (sym (gathered_apart pairs more)) ∙ ids_with (gather pairs) (gather more))
        ∙ id_stays (ids_of (gather pairs)) (gather more) at inside ∙ ap (λ ids. number_in ids group.0) (sym (ids_with (gather pairs) (take at (gather more)))) in
        let next : with_group so_far group ≡ fold with_group (gather pairs) (take (at + 1) (gather more)) =
        sym (ap (fold with_group (gather pairs)) (take_more (gather more) at ([], []) inside) ∙ fold-append with_group (gather pairs) (take at (gather more)) (group ∷ [])) in
        grind (arith, common_steps, ids_of, groups_more)

  pub joins_all : (now : Pairs) (at : ℕ) → length (gather more) ≤ at → Joins now at → HasPairs now names (pairs ++ more)
  joins_all now at past joins = grind (arith, common_steps, with_group, take_all, gathered_apart)

-- no groups are those of no pairs
none_in_order : (names : List (List ℕ)) → in_order names ≡ [] → names ≡ []
none_in_order [] e = refl
none_in_order (name ∷ names) e = grind (arith, common_steps, among_all (with_name [] name) names name (among_with [] name), among_with [] name)

pub joins_none : (old later : Pairs) (names : List (List ℕ)) (pairs more : List Pair) → old.groups.items ≡ [] → HasPairs old names pairs → HasPairs later names more → HasPairs later names (pairs ++ more)
joins_none old later names pairs more none has own = at pairs (no_ids pairs (as_many names [] pairs old has ∙ ap length none))
  where
    no_ids : (pairs : List Pair) → length (gather pairs) ≡ 0 → map (λ (pair : Pair). pair.0) pairs ≡ []
    no_ids pairs e =
        none_in_order (map (λ (pair : Pair). pair.0) pairs)
        (nil_from_length (in_order (map (λ (pair : Pair). pair.0) pairs)) (sym (ap length (by_id pairs) ∙ length-map (in_order (map (λ (pair : Pair). pair.0) pairs)) _) ∙ e))

    at : (pairs : List Pair) → map (λ (pair : Pair). pair.0) pairs ≡ [] → HasPairs later names (pairs ++ more)
    at [] e = own
    at (pair ∷ pairs) e = absurd cc
