-- The paths above the nodes of a rank.
use Rattle.std.proofs.Common.{◌≡◌, ℕ, ◌-◌, List, [], ◌∷◌, ◌++◌, length, arith}
use Rattle.std.proofs.lemmas.List.{length-append, take_at}
use Rattle.mine_fp.specs.Tree.{front}

pub front_push : (r : ℕ) (path : List ℕ) → front (path ++ r ∷ []) ≡ path
front_push r path = take_at path (r ∷ []) (length (path ++ r ∷ []) - 1) (omega (arith, length-append path (r ∷ [])))
