use Rattle.std.proofs.Common.{◌≡◌, ◌+◌, ◌<◌, ◌≤◌, ◌++◌, ℕ, List, Option, None, Some, take, length, ap, sym, ◌∙◌, arith}
use Rattle.std.specs.Prelude.{IfSome}
use Rattle.std.specs.Io.KnownBytes.{Consumes, IsAtEnd}
use Rattle.std.proofs.lemmas.List.{length-take-le}
use Rattle.std.proofs.lemmas.Grind.{common_steps}
use Rattle.basket_read.specs.Fimi.{MOST_BYTES}
use Rattle.basket_read.specs.Bytes.{AreTakenOf}
use Rattle.basket_read.proofs.bytes.take_in.Goals as goal

taken : (old new : Option (List ℕ)) (bytes buffer : List ℕ) (count : ℕ) → Consumes old new (take count buffer) → bytes ≡ take count buffer → count ≤ length buffer
    → (count < MOST_BYTES + 1 → IsAtEnd new) → IfSome old (AreTakenOf bytes)
taken None new bytes buffer count p e within end = tt
taken (Some all) None bytes buffer count p e within end = absurd p
taken (Some all) (Some rest) bytes buffer count p e within end =
    let size = ap length e ∙ length-take-le count buffer within in (rest, p ∙ ap (λ l. l ++ rest) (sym e), λ few. end (omega arith))

pub returns-clause-taken : goal.returns-clause-taken
returns-clause-taken g c = grind (arith, common_steps, taken)
