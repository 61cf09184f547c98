-- Sets of a list that aren't marked.
use Rattle.std.proofs.Common.{◌≡◌, ℕ, ◌+◌, ◌<◌, Bool, true, false, not, List, [], ◌∷◌, ◌++◌, length, take, get_or, filter, ap, ◌∙◌, arith}
use Rattle.std.proofs.lemmas.Grind.{common_steps}
use Rattle.basket_lists.specs.CountedSets.{PassesUnmarked}
use Rattle.basket_sets.specs.declared.counted.Counted.{Counted}

-- the set for an index outside a list
abbrev pub none : Counted
none = record { set = []; count = 0 }

-- so far those were kept that aren't marked
abbrev pub AreUnmarkedBelow : List Bool → List Counted → ℕ → List Counted → Type 0
AreUnmarkedBelow marks list number kept = (test : Counted → Bool) → PassesUnmarked list marks test → kept ≡ filter test (take number list)

pub unmarked_more : (marks : List Bool) (list : List Counted) (number : ℕ) (kept : List Counted) → AreUnmarkedBelow marks list number kept → number < length list
    → get_or marks number false ≡ false → AreUnmarkedBelow marks list (number + 1) (kept ++ get_or list number none ∷ [])
unmarked_more marks list number kept so below unmarked test passes = grind (arith, common_steps)

pub marked_more : (marks : List Bool) (list : List Counted) (number : ℕ) (kept : List Counted) → AreUnmarkedBelow marks list number kept → number < length list
    → get_or marks number false ≡ true → AreUnmarkedBelow marks list (number + 1) kept
marked_more marks list number kept so below marked test passes =
    let c = get_or list number none in
    let e : test c ≡ false = passes number none below ∙ ap not marked in
    grind (arith, common_steps)
