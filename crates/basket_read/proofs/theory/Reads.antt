-- What a reader promises, and what is made of what it read.
use Rattle.std.proofs.lemmas.Grind.{common_steps}
use Rattle.std.proofs.Common.{◌≡◌, ℕ, Bool, List, Option, Result, Ok, Err, arith}
use Rattle.basket_read.specs.declared.fault.ReadFault.{ReadFault}
use Rattle.basket_read.specs.Fault.{Reads}

-- the same fault, or what is made of what was read
abbrev pub Says : {X A : Type 0} → (X → A) → Result X ReadFault → Result A ReadFault → Type 0
Says say (Ok read) result = result ≡ Ok (say read)
Says say (Err fault) result = result ≡ Err fault

module _ {X Y A B : Type 0} (fits : X → Result Y ReadFault → Type 0) (holds : A → Result B ReadFault → Type 0) (say : X → A) (next : Result Y ReadFault → Result B ReadFault)
    (found : (read : X) (defined : Result Y ReadFault) → fits read defined → holds (say read) (next defined)) (refused : (fault : ReadFault) → next (Err fault) ≡ Err fault) where
  -- what is made of what a reader read is read as well, if what is defined is made in the same way
  pub says : (defined : List ℕ → Result Y ReadFault) (fails : ReadFault → Type 0) (left : Option (List ℕ)) (failed : Bool) (read : Result X ReadFault) (result : Result A ReadFault)
      → Says say read result → Reads fits defined fails left failed read → Reads holds (λ bytes. next (defined bytes)) fails left failed result
  says defined fails left failed read result h1 h2 = grind (arith, common_steps)
