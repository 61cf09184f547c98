-- What has been read of records that have an id and a name each.
use Rattle.std.specs.Prelude.{◌≡◌, ℕ, zero, suc, List, [], ◌∷◌, ◌++◌, map}
use Rattle.basket_csv.specs.declared.pairs.Pairs.{Pairs}
use Rattle.basket_csv.specs.Csv.{gather, pairs_of}
use Rattle.basket_names.specs.Names.{number_in}

-- lists of numbers with more numbers, in the list at an index or in a new last one
abbrev pub added_at : List (List ℕ) → ℕ → List ℕ → List (List ℕ)
added_at [] index numbers = numbers ∷ []
added_at (group ∷ groups) zero numbers = (group ++ numbers) ∷ groups
added_at (group ∷ groups) (suc index) numbers = group ∷ added_at groups index numbers

-- the numbers of the names of each group
abbrev pub numbers_of : List (List ℕ) → List (List ℕ × List (List ℕ)) → List (List ℕ)
numbers_of names groups = map (λ group. map (number_in names) group.1) groups

-- the name in a record, if it has one
abbrev pub pair_names : List (List ℕ) → List (List ℕ)
pair_names row = map (λ pair. pair.1) (pairs_of (row ∷ []))

-- the ids and the numbers are those of these pairs, over these names
pub record HasPairs (read : Pairs) (names : List (List ℕ)) (pairs : List (List ℕ × List ℕ)) : Type 0 where
  pub ids : read.ids ≡ map (λ group. group.0) (gather pairs)
  pub groups : map (λ group. group.items) read.groups.items ≡ numbers_of names (gather pairs)
