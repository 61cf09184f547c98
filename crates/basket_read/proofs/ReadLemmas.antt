-- What a read of blocks answers.
use Rattle.std.proofs.lemmas.Grind.{common_steps}
use Rattle.std.proofs.Common.{◌≡◌, ◌≢◌, ℕ, Bool, true, false, List, [], cond, Option, Some, None, Result, Ok, Err, refl, sym, ap, ◌∙◌, subst, leb, ltb, take, length, inl, inr, arith}
use Rattle.std.specs.Prelude.{IfOk, IfSome, unwrap_or}
use Rattle.std.specs.Io.KnownBytes.{Consumes, IsAtEnd}
use Rattle.std.proofs.KnownBytes.{Consumes-all}
use Rattle.std.proofs.lemmas.Bool.{both_ways, cases_Bool}
use Rattle.std.proofs.lemmas.Option.{IfSome_then}
use Rattle.basket_sets.specs.declared.weighted.Weighted.{Weighted}
use Rattle.basket_sets.specs.Number.{is_digit}
use Rattle.basket_sets.specs.Support.{total_of}
use Rattle.basket_sets.specs.Database.{MOST_WEIGHT}
use Rattle.basket_read.specs.declared.fault.ReadFault.{ReadFault}
use Rattle.basket_read.specs.declared.fault.ReadFault.TheVariants.{Memory, Read, TooLong}
use Rattle.basket_read.specs.Fimi.{is_line, fault_at, first_fault, or_else, fault_in, text_of, settled_fault, baskets_of, answer_of, fimi_of, MOST_BYTES}
use Rattle.basket_read.specs.ItemCounts.{CountsDefined}
use Rattle.basket_read.specs.Read.{FailsAfter, ReadsFimi}
use Rattle.basket_read.specs.Fault.{IsDefined, Returns, ReturnsBy, ReturnsFault}
use Rattle.basket_read.specs.GatheredBaskets.{AreGathered, Gathers}
use Rattle.basket_read.specs.declared.item_counts.ItemCounts.{ItemCounts}
use Rattle.basket_read.proofs.InputLemmas.{settled_stays, fault-settled}
use Rattle.basket_read.proofs.PartsLemmas.{answer_told, AreKept}
use Rattle.basket_read.proofs.theory.Grammar as grammar
use Rattle.basket_read.proofs.theory.Reads.{Says, says}

-- ---- no input has the fault of a reader

not_found : (text : List ℕ) → first_fault text ≢ Some Read
not_found text =
    grammar.other_fault is_line fault_at refl Read (λ before byte e. elim (cases_Bool (is_digit byte)) [ inl d ↦ (let no = rw d at e in cc) | inr d ↦ (let no = rw d at e in cc) ]) [] text

not_in : (bytes : List ℕ) → fault_in bytes ≢ Some Read
not_in bytes e = at (first_fault (text_of (take MOST_BYTES bytes))) (ltb MOST_BYTES (length bytes)) (not_found (text_of (take MOST_BYTES bytes))) e
  where
    at : (found : Option ReadFault) (long : Bool) → found ≢ Some Read → or_else found (cond long (Some TooLong) None) ≢ Some Read
    at (Some fault) long none e = none e
    at None true none e = absurd cc
    at None false none e = absurd cc

pub not_settled : (bytes : List ℕ) → settled_fault bytes ≢ Some Read
not_settled bytes e = not_in bytes (fault-settled bytes Read e)

pub not_answered : (bytes : List ℕ) → fimi_of bytes ≢ Err Read
not_answered bytes e = at (fault_in bytes) (baskets_of (text_of bytes)) (not_in bytes) e
  where
    at : (found : Option ReadFault) (baskets : List Weighted) → found ≢ Some Read → answer_of found baskets ≢ Err Read
    at (Some fault) baskets none e = none (let same : fault ≡ Read = cc in ap Some same)
    at None baskets none e = elim (cases_Bool (leb (total_of baskets) MOST_WEIGHT)) [ inl b ↦ (let no = rw b at e in cc) | inr b ↦ (let no = rw b at e in cc) ]

-- ---- the bytes that a reader gave

-- a fault in the bytes that a reader gave is that of all its bytes
refused_answer : (old new : Option (List ℕ)) (given : List ℕ) (fault : ReadFault) → Consumes old new given → ReturnsFault fault (settled_fault given)
    → IfSome old (λ bytes. Returns (Err fault) (fimi_of bytes))
refused_answer None new given fault p told = tt
refused_answer (Some bytes) None given fault p told = absurd p
refused_answer (Some bytes) (Some left) given fault p told = λ no_memory. answer_told bytes fault (ap settled_fault p ∙ settled_stays given left fault (told no_memory))

-- what holds of the bytes that a reader gave up to its end holds of all its bytes
of_all_bytes : (old new : Option (List ℕ)) (given : List ℕ) (P : List ℕ → Type 0) → Consumes old new given → IsAtEnd new → P given → IfSome old P
of_all_bytes old new given P p end h = IfSome_then old (Consumes-all old new given [] given p end refl) (λ all same. subst P same h)

-- a reader that failed after the bytes that it gave
fails_after : (old new : Option (List ℕ)) (given : List ℕ) (fault : ReadFault) → Consumes old new given → (fault ≢ Memory → fault ≡ unwrap_or (fault_in given) Read) → FailsAfter old new fault
fails_after old new given fault h1 h2 = grind (arith, common_steps)

-- ---- reading that stops

-- what was found before it failed
told_fault : (given : List ℕ) (fault : ReadFault) → ReturnsFault fault (settled_fault given) → fault ≢ Memory → fault ≡ unwrap_or (fault_in given) Read
told_fault given fault told no_memory = ap (λ f. unwrap_or f Read) (sym (fault-settled given fault (told no_memory)))

-- a reader stops with a fault
abbrev Stops : Option (List ℕ) → Option (List ℕ) → Bool → ReadFault → Type 0
Stops old new failed fault = ReadsFimi (Gathers true) old new failed (Err fault)

-- at a fault in the bytes that it gave, whether it failed after them or not
pub stops_fault : (old new : Option (List ℕ)) (failed : Bool) (given : List ℕ) (fault : ReadFault) → Consumes old new given → ReturnsFault fault (settled_fault given)
    → Stops old new failed fault
stops_fault old new failed given fault p told = grind (arith, refused_answer old new given fault p told, fails_after old new given fault p (told_fault given fault told), told_fault given fault told, not_settled)

-- where it failed after the bytes that it gave
pub stops_failed : (old new : Option (List ℕ)) (failed : Bool) (given : List ℕ) (fault : ReadFault) → failed ≡ true → Consumes old new given → fault ≡ unwrap_or (fault_in given) Read
    → Stops old new failed fault
stops_failed old new failed given fault broken p is = (λ working. absurd (both_ways failed working broken), λ _. fails_after old new given fault p (λ _. is), λ _. broken)

module _ (counting : Bool) (old new : Option (List ℕ)) (failed : Bool) where
  pub stopped : (answer : Result ItemCounts ReadFault) (fault : ReadFault) → answer ≡ Err fault → Stops old new failed fault → ReadsFimi (Gathers counting) old new failed answer
  stopped answer fault e stops = subst (ReadsFimi (Gathers counting) old new failed) (sym e) stops

  -- at the end of the bytes
  pub ended : (given : List ℕ) (answer : Result ItemCounts ReadFault) → failed ≡ false → Consumes old new given → IsAtEnd new → ReturnsBy (Gathers counting) answer (fimi_of given)
      → ReadsFimi (Gathers counting) old new failed answer
  ended given (Ok counts) working p end found = (working, of_all_bytes old new given (λ all. Gathers counting counts (fimi_of all)) p end found)
  ended given (Err fault) working p end told = grind (arith, of_all_bytes, both_ways, not_answered)

-- the counts of some baskets are gathered
pub some_gathered : (counting : Bool) (answer : Result ItemCounts ReadFault) (defined : Result (List Weighted) ReadFault) → ReturnsBy (Gathers counting) answer defined
    → IfOk answer (λ counts. (baskets : List Weighted) × AreGathered counting counts baskets)
some_gathered counting answer defined h1 = grind (arith, common_steps)

-- ---- what is made of them

same : (read : Result ItemCounts ReadFault) → Says (λ counts. counts) read read
same read = grind (arith, common_steps)

pub counted : (old new : Option (List ℕ)) (failed : Bool) (read : Result ItemCounts ReadFault) → ReadsFimi (Gathers true) old new failed read → ReadsFimi CountsDefined old new failed read
counted old new failed read =
    says (Gathers true) CountsDefined (λ counts. counts) (λ defined. defined) (λ counts defined found. (found.0, found.1, found.2.0)) (λ fault. refl) fimi_of (FailsAfter old new) old failed read read (same read)

kept_said : (read : Result ItemCounts ReadFault) (answer : Result (List Weighted) ReadFault) → AreKept read answer → Says (λ counts. counts.rest) read answer
kept_said read answer h1 = grind (arith, common_steps)

pub kept_alone : (old new : Option (List ℕ)) (failed : Bool) (read : Result ItemCounts ReadFault) (answer : Result (List Weighted) ReadFault) → AreKept read answer
    → ReadsFimi (Gathers false) old new failed read → ReadsFimi IsDefined old new failed answer
kept_alone old new failed read answer kept =
    says (Gathers false) IsDefined (λ counts. counts.rest) (λ defined. defined) (λ counts defined found. found.1 ∙ ap Ok (sym (found.2.2 refl))) (λ fault. refl) fimi_of (FailsAfter old new) old failed read answer (kept_said read answer kept)
