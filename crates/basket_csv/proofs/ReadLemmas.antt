-- What a reader promises, by what bytes say.
use Rattle.std.proofs.Common.{◌≡◌, ◌≢◌, ℕ, Bool, false, cond, ltb, List, length, Option, Result, Ok, Err, refl, sym, ap, ◌∙◌, arith}
use Rattle.std.proofs.lemmas.Grind.{common_steps}
use Rattle.std.specs.Prelude.{IfErr, IfOk, IfSome}
use Rattle.basket_read.specs.declared.fault.ReadFault.{ReadFault}
use Rattle.basket_read.specs.declared.fault.ReadFault.TheVariants.{Read, TooLong}
use Rattle.basket_read.specs.declared.item_counts.ItemCounts.{ItemCounts}
use Rattle.basket_read.specs.Bytes.{AreTakenOf}
use Rattle.basket_read.specs.Fimi.{MOST_BYTES}
use Rattle.basket_read.specs.ItemCounts.{AreLightCounts}
use Rattle.basket_read.specs.Fault.{IsRead, Reads, ReturnsBy}
use Rattle.basket_csv.specs.Baskets.{AreNamedCounts}
use Rattle.basket_csv.specs.Csv.{Named}
use Rattle.basket_csv.specs.Read.{AreCountsNamed}

module _ {X Y : Type 0} (finds : X → Result Y ReadFault → Type 0) (say : List ℕ → Result Y ReadFault) where
  -- what bytes say that may be too many
  abbrev said : List ℕ → Result Y ReadFault
  said bytes = cond (ltb MOST_BYTES (length bytes)) (Err TooLong) (say bytes)

  -- bytes of a reader were taken in, all or too many, and the result is what they say
  pub reads : (left : Option (List ℕ)) (failed : Bool) (bytes items : List ℕ) (result : Result X ReadFault) → bytes ≡ items → (failed ≡ false) × IfSome left (AreTakenOf items)
      → IfErr result (λ fault. fault ≢ Read) → ReturnsBy finds result (said bytes) → Reads finds said IsRead left failed result
  reads h1 h2 h3 h4 h5 h6 h7 h8 h9 = grind (arith, common_steps)

-- ---- counts of baskets

pub counted : (counting : Bool) (result : Result (ItemCounts × List (List ℕ)) ReadFault) (defined : Result Named ReadFault) → ReturnsBy (AreNamedCounts counting) result defined
    → ReturnsBy AreCountsNamed result defined × IfOk result (λ found. AreLightCounts found.0)
counted counting (Ok found) defined (baskets, is, has) = ((baskets, is, has.0), (baskets, has.0, has.1))
counted counting (Err fault) defined h = (h, tt)

pub all_kept : (found : ItemCounts × List (List ℕ)) (defined : Result Named ReadFault) → AreNamedCounts false found defined → defined ≡ Ok (found.0.rest, found.1)
all_kept found defined (baskets, is, gathered) = is ∙ ap (λ all. Ok (all, found.1)) (sym (gathered.2 refl))
