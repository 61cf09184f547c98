-- What is read if a fault is settled, and if all baskets are kept.
use Rattle.std.proofs.lemmas.Grind.{common_steps}
use Rattle.std.proofs.Common.{◌≡◌, ℕ, List, false, Some, Result, Err, ap, arith}
use Rattle.std.specs.Prelude.{IsOkAnd, MatchResult}
use Rattle.basket_sets.specs.declared.weighted.Weighted.{Weighted}
use Rattle.basket_read.specs.declared.fault.ReadFault.{ReadFault}
use Rattle.basket_read.specs.Fimi.{settled_fault, fimi_of, answer_of, baskets_of, text_of}
use Rattle.basket_read.specs.Fault.{Returns, ReturnsBy}
use Rattle.basket_read.specs.GatheredBaskets.{Gathers}
use Rattle.basket_read.specs.declared.item_counts.ItemCounts.{ItemCounts}
use Rattle.basket_read.proofs.InputLemmas.{fault-settled}

-- the answer if a fault is settled
pub answer_told : (bytes : List ℕ) (fault : ReadFault) → settled_fault bytes ≡ Some fault → fimi_of bytes ≡ Err fault
answer_told bytes fault e = ap (λ f. answer_of f (baskets_of (text_of bytes))) (fault-settled bytes fault e)

-- the baskets that are kept
abbrev pub AreKept : Result ItemCounts ReadFault → Result (List Weighted) ReadFault → Type 0
AreKept read result = MatchResult read (λ counts. IsOkAnd result (λ baskets. baskets ≡ counts.rest)) (λ fault. result ≡ Err fault)

pub kept_answers : (read : Result ItemCounts ReadFault) (result answer : Result (List Weighted) ReadFault) → AreKept read result → ReturnsBy (Gathers false) read answer → Returns result answer
kept_answers read result answer h1 h2 = grind (arith, common_steps)
