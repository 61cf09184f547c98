-- Laws on the definitions of what CSV records say.
use Rattle.std.specs.Prelude.{◌≡◌, ℕ, List, map, filter}
use Rattle.std.specs.Str.{bytes_eq}
use Rattle.basket_csv.specs.Csv.{gather}
use Rattle.basket_names.specs.Names.{in_order}

-- the names of an id in some pairs, in their order
abbrev pub names_with : List (List ℕ × List ℕ) → List ℕ → List (List ℕ)
names_with pairs id = map (λ pair. pair.1) (filter (λ pair. bytes_eq id pair.0) pairs)

-- gathered pairs are the ids by first appearance, each with all its names
abbrev pub GatheringIsById : Type 0
GatheringIsById = (pairs : List (List ℕ × List ℕ)) → gather pairs ≡ map (λ id. (id, names_with pairs id)) (in_order (map (λ pair. pair.0) pairs))
