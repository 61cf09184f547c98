-- Going through a list of sets.
use Rattle.std.specs.Prelude.{◌≡◌, List, [], ◌∷◌, Option, None, Some, Result, IfOk}
use Rattle.std.specs.declared.alloc.AllocError.{AllocError}
use Rattle.basket_sets.specs.declared.counted.Counted.{Counted}

-- of the sets that were left, the first is given, unless it runs out of memory, and the others are left then
abbrev pub GivesSet : List Counted → Option (Result Counted AllocError) → List Counted → Type 0
GivesSet old None new = (old ≡ []) × (new ≡ [])
GivesSet old (Some result) new = (set : Counted) × (old ≡ set ∷ new) × IfOk result (λ given. given ≡ set)
