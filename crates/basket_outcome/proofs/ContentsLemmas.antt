-- What is made of what was read.
use Rattle.std.specs.Prelude.{OnOk}
use Rattle.std.proofs.lemmas.Grind.{common_steps}
use Rattle.std.proofs.Common.{◌≡◌, ℕ, Bool, List, Option, Result, Ok, arith}
use Rattle.basket_read.specs.Fault.{IsDefined, Reads, result_and_then}
use Rattle.basket_read.specs.declared.fault.ReadFault.{ReadFault}
use Rattle.basket_outcome.specs.declared.contents.Contents.{Contents}

module _ {A : Type 0} (say : A → Contents) where
  -- contents that are made of what was read
  pub contents_read : (defined : List ℕ → Result A ReadFault) (fails : ReadFault → Type 0) (left : Option (List ℕ)) (failed : Bool) (read : Result A ReadFault) (result : Result Contents ReadFault)
      → result ≡ result_and_then (λ a. Ok (say a)) read → Reads IsDefined defined fails left failed read
      → Reads IsDefined (λ bytes. result_and_then (λ a. Ok (say a)) (defined bytes)) fails left failed result
  contents_read defined fails left failed read result is = grind (arith, common_steps)

-- what holds after `Ok` of what was read holds after `Ok` of what is made of it
pub still : {A : Type 0} (P : Type 0) (next : A → Result Contents ReadFault) (read : Result A ReadFault) (result : Result Contents ReadFault) → result ≡ result_and_then next read → OnOk read P → OnOk result P
still h1 h2 h3 h4 h5 h6 = grind (arith, common_steps)
