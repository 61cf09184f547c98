-- What the parts of an input stand for.
use Rattle.std.specs.Prelude.{◌≡◌, List, ℕ, false, Option, Some, MatchOption}
use Rattle.basket_read.specs.declared.fault.ReadFault.{ReadFault}
use Rattle.basket_read.specs.declared.parts.FimiParts.{FimiParts}
use Rattle.basket_read.specs.Fimi.{settled_fault}
use Rattle.basket_read.specs.Input.{IsInputSoFar}

-- the fault that the parts have returned, and return from then on
abbrev pub refusal_of : FimiParts → Option ReadFault
refusal_of parts = parts.refusal

-- the parts stand for the bytes that they were fed: what was read is theirs, or the fault that was returned is
abbrev pub IsFed : FimiParts → List ℕ → Type 0
IsFed parts bytes = MatchOption parts.refusal (IsInputSoFar parts.input false bytes) (λ fault. settled_fault bytes ≡ Some fault)
