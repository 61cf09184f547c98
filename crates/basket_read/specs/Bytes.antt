-- The bytes of an input.
use Rattle.std.specs.Prelude.{◌≡◌, ◌≤◌, ℕ, Bool, false, if◌then◌else◌, List, [], ◌++◌, length, Option, Result, Ok, Err, IfSome, Vec}
use Rattle.basket_read.specs.declared.fault.ReadFault.{ReadFault}
use Rattle.basket_read.specs.declared.fault.ReadFault.TheVariants.{Memory, Read}
use Rattle.basket_read.specs.Fimi.{MOST_BYTES}

-- these are all bytes, or so many of them that they are too many
abbrev pub AreTakenOf : List ℕ → List ℕ → Type 0
AreTakenOf bytes all = (rest : List ℕ) × (all ≡ bytes ++ rest) × (length bytes ≤ MOST_BYTES → rest ≡ [])

-- a reader of some bytes was asked for them, and failed or not: at `Ok` it didn't
abbrev pub TakesIn : {A : Type 0} → Option (List ℕ) → Bool → Result (Vec ℕ A) ReadFault → Type 0
TakesIn left failed (Ok bytes) = (failed ≡ false) × IfSome left (AreTakenOf bytes.items)
TakesIn left failed (Err fault) = fault ≡ (if failed then Read else Memory)
