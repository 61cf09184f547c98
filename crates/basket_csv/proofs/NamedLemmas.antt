-- Supports of names and of their numbers.
use Rattle.std.proofs.Common.{◌≡◌, ℕ, ◌+◌, Bool, true, false, cond, eqb, ◌&&◌, ◌||◌, List, [], ◌∷◌, ◌++◌, map, filter, get_or, refl, sym, ap, ◌∙◌, arith}
use Rattle.std.proofs.lemmas.Grind.{common_steps}
use Rattle.std.specs.List.{flat_map, list_all}
use Rattle.std.specs.Str.{bytes_eq}
use Rattle.std.proofs.lemmas.Bool.{and_parts, and_from, both_ways, eq-eqb, ne_eqb}
use Rattle.std.proofs.lemmas.List.Folds.{list_all-append, flat_map-map}
use Rattle.std.proofs.lemmas.List.Sums.{passes_at_first, sum_by-cons, sum_by-append}
use Rattle.std.proofs.lemmas.Slice.Eq.{bytes_eq-Decides}
use Rattle.basket_sets.specs.Itemset.{has, contains, rising}
use Rattle.basket_sets.specs.Support.{support_of}
use Rattle.basket_sets.proofs.theory.Rising.{same_test, has_each, contains_each, Member-rising, Member-into_rising}
use Rattle.basket_sets.proofs.theory.Support.{support-append}
use Rattle.basket_read.specs.Fimi.{basket_of_numbers}
use Rattle.basket_csv.specs.Csv.{all_names, names_of_pairs}
use Rattle.basket_csv.specs.Laws.{names_with}
use Rattle.basket_csv.specs.Named.{NamedBasket, are_named, named_weight_at, named_baskets, named_pairs, numbered, numbered_set, SupportIsByNames, NamedSupportsAddUp, BasketsAreNumbered, PairsAreNumbered, BasketSupportIsByNames, PairSupportIsByNames}
use Rattle.basket_names.specs.Names.{in_order, number_in, is_among, are_among}
use Rattle.basket_csv.proofs.GatheringLemmas.{read_among}
use Rattle.basket_csv.proofs.LawLemmas.{by_id}
use Rattle.basket_names.proofs.theory.Names.{all_among, at_any}

-- ---- names of equal numbers are equal

name_at : (names : List (List ℕ)) (name : List ℕ) → is_among names name ≡ true → get_or names (number_in names name) [] ≡ name
name_at names name e = sym ((bytes_eq-Decides name _).0 (passes_at_first (bytes_eq name) names [] (at_any (bytes_eq name) names e)))

pub same_number : (names : List (List ℕ)) (other name : List ℕ) → is_among names other ≡ true → is_among names name ≡ true → eqb (number_in names other) (number_in names name) ≡ bytes_eq name other
same_number names other name o n = at (bytes_eq name other) refl
  where
    at : (b : Bool) → bytes_eq name other ≡ b → eqb (number_in names other) (number_in names name) ≡ b
    at true e = eq-eqb (number_in names other) (number_in names name) (ap (number_in names) (sym ((bytes_eq-Decides name other).0 e)))
    at false e =
        ne_eqb (number_in names other) (number_in names name)
        (λ same. both_ways (bytes_eq name other) e ((bytes_eq-Decides name other).1 (sym (name_at names name n) ∙ ap (λ k. get_or names k []) (sym same) ∙ name_at names other o)))

-- a basket of numbers has a name's number if the basket of names has the name, and only then
has_number : (names basket : List (List ℕ)) (name : List ℕ) → are_among names basket ≡ true → is_among names name ≡ true → has (map (number_in names) basket) (number_in names name) ≡ is_among basket name
has_number names [] name all n = refl
has_number names (other ∷ basket) name all n =
    let h = and_parts (is_among names other) (are_among names basket) all in
    ap (λ b. b || has (map (number_in names) basket) (number_in names name)) (same_number names other name h.0 n)
    ∙ ap (λ b. bytes_eq name other || b) (has_number names basket name h.1 n)

contains_numbers : (names basket set : List (List ℕ)) → are_among names basket ≡ true → are_among names set ≡ true → contains (map (number_in names) basket) (map (number_in names) set) ≡ are_among basket set
contains_numbers names basket [] all some = refl
contains_numbers names basket (name ∷ set) all some =
    let h = and_parts (is_among names name) (are_among names set) some in
    ap (λ b. b && contains (map (number_in names) basket) (map (number_in names) set)) (has_number names basket name all h.0)
    ∙ ap (λ b. is_among basket name && b) (contains_numbers names basket set all h.1)

contains_rising : (basket set : List ℕ) → contains (rising basket) (rising set) ≡ contains basket set
contains_rising basket set = grind (arith, common_steps, same_test, contains_each, Member-rising, has_each, Member-into_rising)

-- ---- supports

weight_is_by_names : (names set own : List (List ℕ)) (weight : ℕ) → are_among names own ≡ true → are_among names set ≡ true
    → support_of (basket_of_numbers (map (number_in names) own) weight) (numbered_set names set) ≡ named_weight_at set (own, weight)
weight_is_by_names names set [] weight all some = refl
weight_is_by_names names set (name ∷ own) weight all some = grind (arith, common_steps, contains_rising, contains_numbers)

pub support_is_by_names : SupportIsByNames
support_is_by_names names [] set all some = refl
support_is_by_names names (basket ∷ baskets) set all some =
    let h = and_parts (are_among names basket.0) (are_named names baskets) all in
    support-append (basket_of_numbers (map (number_in names) basket.0) basket.1) (numbered names baskets) (numbered_set names set)
    ∙ ap (λ n. n + support_of (numbered names baskets) (numbered_set names set)) (weight_is_by_names names set basket.0 basket.1 h.0 some)
    ∙ ap (λ n. named_weight_at set basket + n) (support_is_by_names names baskets set h.1 some)
    ∙ sym (sum_by-cons (named_weight_at set) basket baskets)

pub named_supports_add_up : NamedSupportsAddUp
named_supports_add_up a b set = sum_by-append (named_weight_at set) a b

-- ---- names in the order of their first appearance

equal_passes : (p : List ℕ → Bool) (names : List (List ℕ)) (name : List ℕ) → list_all p names ≡ true → is_among names name ≡ true → p name ≡ true
equal_passes p [] name all e = absurd cc
equal_passes p (other ∷ names) name all e = grind (arith, common_steps, equal_passes p names name (and_parts (p other) (list_all p names) all).1, and_parts, bytes_eq-Decides)

all_in_order : (names set : List (List ℕ)) → are_among names set ≡ true → are_among (in_order names) set ≡ true
all_in_order names [] e = refl
all_in_order names (name ∷ set) e =
    let h = and_parts (is_among names name) (are_among names set) e in
    and_from (is_among (in_order names) name) (are_among (in_order names) set) (equal_passes (is_among (in_order names)) names name (all_among [] names) h.0) (all_in_order names set h.1)

-- ---- the baskets of records

baskets_named : {X : Type 0} (names : List (List ℕ)) (basket : X → NamedBasket) (rows : List X) → are_among names (flat_map (λ row. (basket row).0) rows) ≡ true → are_named names (map basket rows) ≡ true
baskets_named names basket [] e = refl
baskets_named names basket (row ∷ rows) e =
    let own = (basket row).0 in
    let rest = flat_map (λ row. (basket row).0) rows in
    let h = and_parts (are_among names own) (are_among names rest) (sym (list_all-append (is_among names) own rest) ∙ e) in
    and_from (are_among names own) (are_named names (map basket rows)) h.0 (baskets_named names basket rows h.1)

pub baskets_are_numbered : BasketsAreNumbered
baskets_are_numbered weighted known rows = grind (arith, common_steps, flat_map-map, baskets_named, read_among)

pub basket_support_is_by_names : BasketSupportIsByNames
basket_support_is_by_names weighted known rows set e =
    let names = in_order (known ++ all_names weighted rows) in
    let h = baskets_are_numbered weighted known rows in
    ap (λ bs. support_of bs (numbered_set names set)) h.0 ∙ support_is_by_names names (named_baskets weighted rows) set h.1 (all_in_order (known ++ all_names weighted rows) set e)

-- ---- the baskets of pairs

some_named : (names : List (List ℕ)) (p : List ℕ × List ℕ → Bool) (pairs : List (List ℕ × List ℕ)) → are_among names (map (λ pair. pair.1) pairs) ≡ true → are_among names (map (λ pair. pair.1) (filter p pairs)) ≡ true
some_named names p [] e = refl
some_named names p (pair ∷ pairs) e =
    let h = and_parts (is_among names pair.1) (are_among names (map (λ pair. pair.1) pairs)) e in
    at (p pair) h.0 (some_named names p pairs h.1)
  where
    at : (b : Bool) → is_among names pair.1 ≡ true → are_among names (map (λ pair. pair.1) (filter p pairs)) ≡ true
        → are_among names (map (λ (pair : List ℕ × List ℕ). pair.1) (cond b (pair ∷ filter p pairs) (filter p pairs))) ≡ true
    at true here later = and_from (is_among names pair.1) (are_among names (map (λ pair. pair.1) (filter p pairs))) here later
    at false here later = later

pub groups_named : (names : List (List ℕ)) (pairs : List (List ℕ × List ℕ)) (ids : List (List ℕ)) → are_among names (map (λ pair. pair.1) pairs) ≡ true
    → are_named names (map (λ (group : List ℕ × List (List ℕ)). (group.1, 1)) (map (λ id. (id, names_with pairs id)) ids)) ≡ true
groups_named names pairs [] e = refl
groups_named names pairs (id ∷ ids) e = and_from (are_among names (names_with pairs id)) _ (some_named names (λ pair. bytes_eq id pair.0) pairs e) (groups_named names pairs ids e)

pub pairs_are_numbered : PairsAreNumbered
pairs_are_numbered known pairs = grind (arith, common_steps, flat_map-map, by_id, groups_named, read_among)

pub pair_support_is_by_names : PairSupportIsByNames
pair_support_is_by_names known pairs set e =
    let names = names_of_pairs known pairs in
    let h = pairs_are_numbered known pairs in
    ap (λ bs. support_of bs (numbered_set names set)) h.0 ∙ support_is_by_names names (named_pairs pairs) set h.1 (all_in_order (known ++ map (λ pair. pair.1) pairs) set e)
