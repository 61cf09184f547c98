-- Baskets of names, whose supports need no numbers.
use Rattle.std.specs.Prelude.{◌≡◌, ℕ, ◌+◌, IsTrue, Bool, false, if◌then◌else◌, List, [], ◌∷◌, ◌++◌, map, unwrap_or}
use Rattle.std.specs.List.{list_all, flat_map, sum_by}
use Rattle.basket_sets.specs.declared.weighted.Weighted.{Weighted}
use Rattle.basket_sets.specs.Itemset.{rising}
use Rattle.basket_sets.specs.Support.{support_of}
use Rattle.basket_read.specs.Fimi.{basket_of_numbers}
use Rattle.basket_csv.specs.Csv.{names_in, weight_of, all_names, baskets_in, gather, names_of_pairs, baskets_of_pairs}
use Rattle.basket_names.specs.Names.{are_among, in_order, number_in}

-- some names and a weight
abbrev pub NamedBasket : Type 0
NamedBasket = List (List ℕ) × ℕ

-- whether a basket of these names has a name, and has each name of a set
abbrev pub has_all : List (List ℕ) → List (List ℕ) → Bool
has_all [] set = false
has_all (name ∷ names) set = are_among (name ∷ names) set

-- what a basket adds to the support of a set: its weight if it has a name and all those of the set, else nothing
abbrev pub named_weight_at : List (List ℕ) → NamedBasket → ℕ
named_weight_at set basket = if has_all basket.0 set then basket.1 else 0

-- the support of a set of names
abbrev pub named_support : List NamedBasket → List (List ℕ) → ℕ
named_support baskets set = sum_by (named_weight_at set) baskets

-- whether each name of each basket is among some names
abbrev pub are_named : List (List ℕ) → List NamedBasket → Bool
are_named names baskets = list_all (λ (basket : NamedBasket). are_among names basket.0) baskets

-- the baskets as sets of the numbers that their names have among some names
abbrev pub numbered : List (List ℕ) → List NamedBasket → List Weighted
numbered names baskets = flat_map (λ (basket : NamedBasket). basket_of_numbers (map (number_in names) basket.0) basket.1) baskets

-- a set of names as the set of their numbers
abbrev pub numbered_set : List (List ℕ) → List (List ℕ) → List ℕ
numbered_set names set = rising (map (number_in names) set)

-- the baskets of records that have one each
abbrev pub named_baskets : Bool → List (List (List ℕ)) → List NamedBasket
named_baskets weighted rows = map (λ row. (names_in weighted row, unwrap_or (weight_of weighted row) 1)) rows

-- the baskets of pairs of an id and a name
abbrev pub named_pairs : List (List ℕ × List ℕ) → List NamedBasket
named_pairs pairs = map (λ group. (group.1, 1)) (gather pairs)

-- whatever numbers names have, the support of a set of numbered names in numbered baskets is that of the names
abbrev pub SupportIsByNames : Type 0
SupportIsByNames = (names : List (List ℕ)) (baskets : List NamedBasket) (set : List (List ℕ)) → IsTrue (are_named names baskets) → IsTrue (are_among names set)
    → support_of (numbered names baskets) (numbered_set names set) ≡ named_support baskets set

-- supports over two lists of baskets add up
abbrev pub NamedSupportsAddUp : Type 0
NamedSupportsAddUp = (a b : List NamedBasket) (set : List (List ℕ)) → named_support (a ++ b) set ≡ named_support a set + named_support b set

-- what is read of records are their baskets over the known names and theirs, and each name of these is among those
abbrev pub BasketsAreNumbered : Type 0
BasketsAreNumbered = (weighted : Bool) (known : List (List ℕ)) (rows : List (List (List ℕ))) →
    let names = in_order (known ++ all_names weighted rows) in
    (baskets_in weighted known rows ≡ numbered names (named_baskets weighted rows)) × IsTrue (are_named names (named_baskets weighted rows))

-- the same of pairs
abbrev pub PairsAreNumbered : Type 0
PairsAreNumbered = (known : List (List ℕ)) (pairs : List (List ℕ × List ℕ)) →
    let names = names_of_pairs known pairs in
    (baskets_of_pairs known pairs ≡ numbered names (named_pairs pairs)) × IsTrue (are_named names (named_pairs pairs))

-- in what is read of records, each set of known names and theirs has the support that the names have
abbrev pub BasketSupportIsByNames : Type 0
BasketSupportIsByNames = (weighted : Bool) (known : List (List ℕ)) (rows : List (List (List ℕ))) (set : List (List ℕ)) → IsTrue (are_among (known ++ all_names weighted rows) set)
    → support_of (baskets_in weighted known rows) (numbered_set (in_order (known ++ all_names weighted rows)) set) ≡ named_support (named_baskets weighted rows) set

-- the same of pairs
abbrev pub PairSupportIsByNames : Type 0
PairSupportIsByNames = (known : List (List ℕ)) (pairs : List (List ℕ × List ℕ)) (set : List (List ℕ)) → IsTrue (are_among (known ++ map (λ pair. pair.1) pairs) set)
    → support_of (baskets_of_pairs known pairs) (numbered_set (names_of_pairs known pairs) set) ≡ named_support (named_pairs pairs) set
