-- Bytes that were taken in.
use Rattle.std.proofs.lemmas.Grind.{common_steps}
use Rattle.std.proofs.Common.{ℕ, ◌<◌, List, ◌++◌, length, Option, arith}
use Rattle.std.specs.Prelude.{IfSome}
use Rattle.basket_read.specs.Bytes.{AreTakenOf}
use Rattle.basket_read.specs.Fimi.{MOST_BYTES}

-- what holds of bytes that were taken in holds of all bytes, if it still holds of too many bytes when more follow
pub of_all : (P : List ℕ → Type 0) → ((bytes rest : List ℕ) → MOST_BYTES < length bytes → P bytes → P (bytes ++ rest))
    → (left : Option (List ℕ)) (bytes : List ℕ) → IfSome left (AreTakenOf bytes) → P bytes → IfSome left P
of_all P h1 left bytes h2 h3 = grind (arith, common_steps)
