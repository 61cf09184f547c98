-- What a list of some bytes says.
use Rattle.std.proofs.lemmas.Grind.{common_steps}
use Rattle.std.proofs.Common.{◌≡◌, ◌≢◌, ℕ, ◌<◌, ◌≤◌, Bool, true, false, cond, ltb, List, [], ◌∷◌, ◌++◌, length, take, min, Option, Some, None, Result, Ok, Err, refl, sym, ap, ◌∙◌, subst, arith}
use Rattle.std.specs.Prelude.{IfSome, Vec}
use Rattle.std.proofs.Math.Nat.{min_comm}
use Rattle.std.proofs.lemmas.Bool.{lt-ltb, le-ltb}
use Rattle.std.proofs.lemmas.List.{length-append, take_all, take_min, take-append-le}
use Rattle.std.proofs.lemmas.Option.{IfSome_then}
use Rattle.basket_sets.specs.Number.{is_digit}
use Rattle.basket_read.specs.declared.fault.ReadFault.{ReadFault}
use Rattle.basket_read.specs.declared.fault.ReadFault.TheVariants.{Memory, Read, TooLong, Byte}
use Rattle.basket_read.specs.Bytes.{AreTakenOf}
use Rattle.basket_read.specs.Cut.{cut_at}
use Rattle.basket_read.specs.Fimi.{is_line_feed, line_after, or_else, text_of, MOST_BYTES}
use Rattle.basket_read.specs.Fault.{ReturnsFault, ReturnsBy, ReturnsList, Reads, IsRead, IsDefined, IsDefinedList, result_and_then}
use Rattle.basket_counts.specs.declared.listed_sets.ListedSets.{ListedSets}
use Rattle.basket_counts.specs.ListedSets.{HasEntries, AreEntries}
use Rattle.basket_read.proofs.theory.Bytes.{of_all}
use Rattle.basket_read.proofs.theory.Grammar as grammar
use Rattle.basket_counts.specs.Counts.{ListedSet, is_open, is_close, is_line, fault_at, count_fault, digit_fault, first_fault, entries_of, entries_said, entries_in}

-- no text has the fault of a reader
not_found : (text : List ℕ) → first_fault text ≢ Some Read
not_found text = grammar.other_fault is_line fault_at refl Read (λ before byte. let line = cut_at is_open (cut_at is_line_feed before).last in at line.ended line.last (line_after before) byte (is_digit byte)) [] text
  where
    count : (ended : List (List ℕ)) (line byte : ℕ) → count_fault ended line byte ≢ Read
    count [] line byte e = absurd cc
    count (digits ∷ others) line byte e = absurd cc

    at : (heads : List (List ℕ)) (last : List ℕ) (line byte : ℕ) (digit : Bool) → cond digit (digit_fault heads last line byte) (Byte line byte) ≢ Read
    at heads last line byte false e = absurd cc
    at [] last line byte true e = absurd cc
    at (text ∷ others) last line byte true e = count (cut_at is_close last).ended line byte e

-- what bytes say, by the first fault in as many of them as an input may have
said : (bytes : List ℕ) (found : Option ReadFault) (many : Bool) → first_fault (text_of (take MOST_BYTES bytes)) ≡ found → ltb MOST_BYTES (length bytes) ≡ many
    → entries_in bytes ≡ entries_said (or_else found (cond many (Some TooLong) None)) (entries_of (text_of bytes))
said bytes found many e m = λ i. entries_said (or_else (e i) (cond (m i) (Some TooLong) None)) (entries_of (text_of bytes))

module _ (bytes text : List ℕ) (most : ℕ) (is : text ≡ text_of (take most bytes)) (is_most : most ≡ min (length bytes) MOST_BYTES) where
  -- the text of as many bytes as an input may have
  first : first_fault (text_of (take MOST_BYTES bytes)) ≡ first_fault text
  first = ap (λ l. first_fault (text_of l)) (sym (ap (λ n. take n bytes) (is_most ∙ min_comm (length bytes) MOST_BYTES) ∙ take_min MOST_BYTES bytes)) ∙ ap first_fault (sym is)

  -- a fault of it is that of all bytes
  pub faulty : (fault : ReadFault) → ReturnsFault fault (first_fault text) → ReturnsBy AreEntries (Err fault) (entries_in bytes)
  faulty fault told = λ no_memory. said bytes (Some fault) (ltb MOST_BYTES (length bytes)) (first ∙ told no_memory) refl

  -- bytes that are too many, without a fault before
  pub too_long : most < length bytes → first_fault text ≡ None → entries_in bytes ≡ Err TooLong
  too_long more none = said bytes None true (first ∙ none) (lt-ltb MOST_BYTES (length bytes) (omega arith))

  -- bytes that are not too many, without a fault
  pub faultless : (listed : ListedSets) → length bytes ≤ most → (first_fault text ≡ None) × HasEntries listed (entries_of text) → AreEntries listed (entries_in bytes)
  faultless listed few (none, has) =
      rw (said bytes None false (first ∙ none) (le-ltb MOST_BYTES (length bytes) (omega arith)))
      (subst (λ l. HasEntries listed (entries_of l)) (is ∙ ap text_of (take_all most bytes few)) has)

-- too many bytes say what all say, since they have a fault
longer : (bytes rest : List ℕ) → MOST_BYTES < length bytes → entries_in (bytes ++ rest) ≡ entries_in bytes
longer bytes rest more =
    let sum = length-append bytes rest in
    let found = first_fault (text_of (take MOST_BYTES bytes)) in
    said (bytes ++ rest) found true (ap (λ l. first_fault (text_of l)) (take-append-le MOST_BYTES bytes rest (omega arith))) (lt-ltb MOST_BYTES (length (bytes ++ rest)) (omega arith))
    ∙ at found (entries_of (text_of (bytes ++ rest))) (entries_of (text_of bytes)) ∙ sym (said bytes found true refl (lt-ltb MOST_BYTES (length bytes) more))
  where
    at : (found : Option ReadFault) (entries others : List ListedSet) → entries_said (or_else found (Some TooLong)) entries ≡ entries_said (or_else found (Some TooLong)) others
    at (Some fault) entries others = refl
    at None entries others = refl

-- no bytes have the fault of a reader
unread : (bytes : List ℕ) → entries_in bytes ≢ Err Read
unread bytes = at (first_fault (text_of (take MOST_BYTES bytes))) (ltb MOST_BYTES (length bytes)) (not_found (text_of (take MOST_BYTES bytes)))
  where
    at : (found : Option ReadFault) (many : Bool) → found ≢ Some Read → entries_said (or_else found (cond many (Some TooLong) None)) (entries_of (text_of bytes)) ≢ Err Read
    at (Some fault) many other e = other cc
    at None true other e = absurd cc
    at None false other e = absurd cc

-- no bytes could be taken in
pub untaken : (left : Option (List ℕ)) (failed : Bool) (fault : ReadFault) → fault ≡ cond failed Read Memory → Reads AreEntries entries_in IsRead left failed (Err fault)
untaken left failed fault h1 = grind (arith, common_steps)

module _ (left : Option (List ℕ)) (failed : Bool) where
  -- what a reader read that did not fail
  module _ {X Y : Type 0} (fits : X → Result Y ReadFault → Type 0) (defined : List ℕ → Result Y ReadFault) where
    working : (result : Result X ReadFault) → failed ≡ false → result ≢ Err Read → IfSome left (λ bytes. ReturnsBy fits result (defined bytes)) → Reads fits defined IsRead left failed result
    working result h1 h2 h3 = grind (arith, common_steps)

  -- what bytes say that were taken in
  pub taken : (bytes : List ℕ) (result : Result ListedSets ReadFault) → failed ≡ false → IfSome left (AreTakenOf bytes) → ReturnsBy AreEntries result (entries_in bytes)
      → Reads AreEntries entries_in IsRead left failed result
  taken bytes result e all told =
      working AreEntries entries_in result e (λ is. unread bytes (subst (λ r. ReturnsBy AreEntries r (entries_in bytes)) is told (λ m. absurd cc)))
      (of_all (λ l. ReturnsBy AreEntries result (entries_in l)) (λ l rest more. subst (ReturnsBy AreEntries result) (sym (longer l rest more))) left bytes all told)

  module _ {X : Type 0} (next : List ListedSet → Result (List X) ReadFault) where
    -- a list was not read
    pub refused : (fault : ReadFault) → Reads AreEntries entries_in IsRead left failed (Err fault) → Reads (IsDefined {X = List X}) (λ bytes. result_and_then next (entries_in bytes)) IsRead left failed (Err fault)
    refused fault (exact, fails, only) = (λ e. IfSome_then left (exact e) (λ bytes told no_memory. ap (result_and_then next) (told no_memory)), fails, only)

    -- what follows of a list that was read
    pub follows : {A : Type 0} (listed : ListedSets) (result : Result (Vec X A) ReadFault) → ((entries : List ListedSet) → HasEntries listed entries → ReturnsList result (next entries)) → result ≢ Err Read
        → Reads AreEntries entries_in IsRead left failed (Ok listed) → Reads IsDefinedList (λ bytes. result_and_then next (entries_in bytes)) IsRead left failed result
    follows listed result told other (e, all) = working IsDefinedList (λ bytes. result_and_then next (entries_in bytes)) result e other (IfSome_then left all (λ bytes. found (entries_in bytes)))
      where
        found : (defined : Result (List ListedSet) ReadFault) → AreEntries listed defined → ReturnsList result (result_and_then next defined)
        found (Ok entries) has = told entries has
        found (Err fault) has = elim has [ ]
