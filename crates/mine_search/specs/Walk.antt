-- The frequent sets that extend a set downward, depth first, and the work that finds them.
use Rattle.std.specs.Prelude.{◌+◌, ◌++◌, ℕ, zero, suc, Bool, List, [], ◌∷◌, filter, if◌then◌else◌}
use Rattle.std.specs.List.{range_with_len}

-- the ranks below a number with which a set passes a test, rising
abbrev pub kept_below : (List ℕ → Bool) → ℕ → List ℕ → List ℕ
kept_below test below set = filter (λ rank. test (rank ∷ set)) (range_with_len 0 below)

-- the sets that pass a test, where each set so far does, and have one or more ranks below a number and then the ranks of a set: depth first, each set before those that extend it
abbrev pub sets_below : (List ℕ → Bool) → ℕ → List ℕ → List (List ℕ)
sets_below test zero set = []
sets_below test (suc rank) set = sets_below test rank set ++ (if test (rank ∷ set) then (rank ∷ set) ∷ sets_below test rank (rank ∷ set) else [])

-- the work that finds them, if a function gives the work for each
abbrev pub work_below : (List ℕ → ℕ) → (List ℕ → Bool) → ℕ → List ℕ → ℕ
work_below work test zero set = 0
work_below work test (suc rank) set = work_below work test rank set + (if test (rank ∷ set) then work (rank ∷ set) + work_below work test rank (rank ∷ set) else 0)
