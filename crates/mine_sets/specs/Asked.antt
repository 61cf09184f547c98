-- The sets that are asked for.
use Rattle.std.specs.Prelude.{List, [], ◌∷◌, ◌++◌, ℕ, fold, if◌then◌else◌, nat_eq}
use Rattle.std.specs.Cmp.Lexicographic.{pointwise}
use Rattle.std.specs.List.{list_any}
use Rattle.basket_sets.specs.declared.counted.Counted.{Counted}

-- the list with the set at its end, or as it is where it has the set
abbrev pub with_set : List (List ℕ) → List ℕ → List (List ℕ)
with_set sets set = if list_any (pointwise nat_eq set) sets then sets else sets ++ set ∷ []

-- the empty set, and then each of the others once, where it first comes
abbrev pub asked_of : List (List ℕ) → List (List ℕ)
asked_of sets = fold with_set [] ([] ∷ sets)

-- a set and the support that stands beside it
abbrev pub counted_with : List ℕ × ℕ → Counted
counted_with entry = record { set = entry.0; count = entry.1 }
