-- What a reader of FIMI promises.
use Rattle.std.specs.Prelude.{◌≡◌, ◌≢◌, ℕ, Bool, List, Option, Some, Result, IfSome, unwrap_or}
use Rattle.std.specs.Io.KnownBytes.{Consumes}
use Rattle.basket_sets.specs.declared.weighted.Weighted.{Weighted}
use Rattle.basket_read.specs.declared.fault.ReadFault.{ReadFault}
use Rattle.basket_read.specs.declared.fault.ReadFault.TheVariants.{Memory, Read}
use Rattle.basket_read.specs.Fault.{Reads}
use Rattle.basket_read.specs.Fimi.{fault_in, fimi_of}

-- the reader gave some of the bytes that it had left and failed: except if memory is out, the fault is that in what it gave, else `Read`
abbrev pub FailsAfter : Option (List ℕ) → Option (List ℕ) → ReadFault → Type 0
FailsAfter old new fault = IfSome old (λ bytes. (given : List ℕ) × Consumes (Some bytes) new given × (fault ≢ Memory → fault ≡ unwrap_or (fault_in given) Read))

-- what a reader promises that had these bytes left, has those left now, and failed or not
abbrev pub ReadsFimi : {X : Type 0} → (X → Result (List Weighted) ReadFault → Type 0) → Option (List ℕ) → Option (List ℕ) → Bool → Result X ReadFault → Type 0
ReadsFimi fits old new = Reads fits fimi_of (FailsAfter old new) old
