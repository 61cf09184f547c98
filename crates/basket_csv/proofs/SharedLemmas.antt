-- The records of parts that are right, and of those after them.
use Rattle.std.proofs.Common.{◌≡◌, ℕ, zero, suc, ◌+◌, ◌≤◌, Bool, false, List, [], ◌∷◌, ◌++◌, Option, Some, None, Result, Err, drop, length, refl, sym, ap, ◌∙◌, subst, append_assoc, arith}
use Rattle.std.proofs.lemmas.Grind.{common_steps}
use mir.Val.{bool_byte}
use Rattle.std.proofs.lemmas.List.{length-append}
use Rattle.basket_read.specs.declared.fault.ReadFault.{ReadFault}
use Rattle.basket_read.specs.Fimi.{or_else, MOST_BYTES}
use Rattle.basket_csv.specs.declared.shared.ReadPart.{ReadPart}
use Rattle.basket_csv.specs.declared.shared.RightParts.{RightParts}
use Rattle.basket_csv.specs.Csv.{after_header, bytes_say, fault_from, first_number}
use Rattle.basket_csv.specs.Records.{records_of}
use Rattle.basket_csv.specs.Rows.{InParts, Rows}
use Rattle.basket_csv.specs.Shared.{AreFaultless, AreRight, IsReadPart}
use Rattle.basket_csv.proofs.RowsLemmas.{in_last}
use Rattle.basket_csv.proofs.PartLemmas.{no_records}

-- ---- faults, whatever the number of the first record

both_none : (first later : Option ReadFault) → or_else first later ≡ None → (first ≡ None) × (later ≡ None)
both_none h1 h2 h3 = grind (arith, common_steps)

module _ (fault : ℕ → List (List ℕ) → Option ReadFault) where
  pub faultless : ((n m : ℕ) (row : List (List ℕ)) → fault n row ≡ None → fault m row ≡ None) → (n : ℕ) (rows : Rows) → fault_from fault n rows ≡ None → AreFaultless fault rows
  faultless any n [] e m = refl
  faultless any n (row ∷ rows) e m =
      let h = both_none (fault n row) (fault_from fault (n + 1) rows) e in
      ap (λ f. or_else f (fault_from fault (m + 1) rows)) (any n m row h.0) ∙ faultless any (n + 1) rows h.1 (m + 1)

  -- the first fault is that of the records after some that have none
  pub fault_after : (n : ℕ) (rows later : Rows) → fault_from fault n rows ≡ None → fault_from fault n (rows ++ later) ≡ fault_from fault (n + length rows) later
  fault_after n [] later none = let same : n ≡ n + 0 = omega arith in ap (λ k. fault_from fault k later) same
  fault_after n (row ∷ rows) later none =
      let h = both_none (fault n row) (fault_from fault (n + 1) rows) none in
      let same : n + 1 + length rows ≡ n + length (row ∷ rows) = omega arith in
      ap (λ f. or_else f (fault_from fault (n + 1) (rows ++ later))) h.0 ∙ fault_after (n + 1) rows later h.1 ∙ ap (λ k. fault_from fault k later) same

  pub faultless_both : (rows later : Rows) → AreFaultless fault rows → AreFaultless fault later → AreFaultless fault (rows ++ later)
  faultless_both rows later none too n = fault_after n rows later (none n) ∙ too (n + length rows)

-- nothing after a part has no records
pub nothing_after : (separator : ℕ) (header : Bool) (first rest : List ℕ) → rest ≡ [] → after_header header (records_of separator (first ++ rest)) ≡ after_header header (records_of separator first) ++ records_of separator rest
nothing_after separator header first rest none = grind (arith, common_steps, no_records)

-- ---- one part more before others

drop_past : (first rest : List ℕ) (n k : ℕ) → k ≡ length first + n → drop k (first ++ rest) ≡ drop n rest
drop_past [] rest n k e = let same : k ≡ n = omega (arith, e) in ap (λ i. drop i rest) same
drop_past (x ∷ first) rest n zero e = absurd (omega arith)
drop_past (x ∷ first) rest n (suc k) e = drop_past first rest n k (omega arith)

pub header_before : (header : Bool) (n : ℕ) → n ≡ bool_byte header → n + 1 ≡ first_number header
header_before h1 h2 h3 = grind (arith, common_steps)

nothing_left : (separator : ℕ) (header : Bool) (rest : List ℕ) → rest ≡ [] → after_header header (records_of separator rest) ≡ []
nothing_left separator header rest none = grind (arith, common_steps, no_records)

module _ {C : Type 0} (has : C → Rows → Type 0) (fault : ℕ → List (List ℕ) → Option ReadFault) (separator : ℕ) where
  abbrev records : List ℕ → Rows
  records bytes = records_of separator bytes

  abbrev Right : Bool → List ℕ → RightParts C → Type 0
  Right header bytes right = AreRight has fault separator header bytes right

  abbrev IsRead : Bool → List ℕ → ReadPart C → Type 0
  IsRead header bytes read = IsReadPart has fault separator header bytes read

  pub right_after : (header : Bool) (first rest : List ℕ) (later all : RightParts C) (read : ReadPart C) (extra : ℕ)
      → all.parts.items ≡ read.part ∷ later.parts.items → all.end ≡ length first + later.end → all.before ≡ extra + read.records + later.before → all.header ≡ later.header
      → extra ≡ bool_byte header → IsRead header first read
      → after_header header (records (first ++ rest)) ≡ after_header header (records first) ++ records rest
      → Right false rest later → Right header (first ++ rest) all
  right_after header first rest later all read extra items end before same_header extra_is is joins right =
      let own = after_header header (records first) in
      record {
        rows = own ++ right.rows;
        parts = subst (λ l. InParts has l (own ++ right.rows)) (sym items) (own, right.rows, refl, is.part, right.parts);
        within = let within = right.within in omega (arith, end, length-append first rest);
        number = let number = right.number in ap (λ h. all.before + first_number h) same_header ∙ omega (arith, before, is.count, length-append own right.rows, header_before header extra extra_is);
        faultless = faultless_both fault own right.rows is.faultless right.faultless;
        all = joins ∙ ap (λ r. own ++ r) right.all ∙ sym (append_assoc own right.rows (after_header later.header (records (drop later.end rest))))
            ∙ ap (λ r. (own ++ right.rows) ++ after_header later.header (records r)) (sym (drop_past first rest later.end all.end end))
            ∙ ap (λ h. (own ++ right.rows) ++ after_header h (records (drop all.end (first ++ rest)))) (sym same_header);
      }

  -- ---- what is read of all

  pub all_fault : (header : Bool) (bytes : List ℕ) (right : RightParts C) → Right header bytes right
      → fault_from fault (first_number header) (after_header header (records bytes)) ≡ fault_from fault (right.before + first_number right.header) (after_header right.header (records (drop right.end bytes)))
  all_fault header bytes right is = grind (arith, common_steps, fault_after)

  pub all_right : (header : Bool) (bytes : List ℕ) (right : RightParts C) → Right header bytes right → drop right.end bytes ≡ []
      → (fault_from fault (first_number header) (after_header header (records bytes)) ≡ None) × InParts has right.parts.items (after_header header (records bytes))
  all_right header bytes right is none = grind (arith, common_steps, nothing_left)

  pub all_parts : (header : Bool) (bytes rest : List ℕ) (right : RightParts C) (read : ReadPart C) (items : List C)
      → Right header bytes right → rest ≡ drop right.end bytes → IsRead right.header rest read → items ≡ right.parts.items ++ read.part ∷ []
      → (fault_from fault (first_number header) (after_header header (records bytes)) ≡ None) × InParts has items (after_header header (records bytes))
  all_parts header bytes rest right read items is left last grown =
      let own = after_header right.header (records (drop right.end bytes)) in
      let same : after_header right.header (records rest) ≡ own = ap (λ r. after_header right.header (records r)) left in (
        all_fault header bytes right is ∙ subst (AreFaultless fault) same last.faultless (right.before + first_number right.header),
        subst (λ l. InParts has l (after_header header (records bytes))) (sym grown)
            (subst (InParts has (right.parts.items ++ read.part ∷ [])) (sym is.all) (in_last has right.parts.items read.part is.rows own is.parts (subst (has read.part) same last.part))),
      )

-- ---- what all records say

-- a short text without a fault says what its records say
pub said_of_all : {X : Type 0} (separator : ℕ) (header : Bool) (fault : ℕ → List (List ℕ) → Option ReadFault) (said : Rows → Result X ReadFault) (bytes : List ℕ) → length bytes ≤ MOST_BYTES
    → fault_from fault (first_number header) (after_header header (records_of separator bytes)) ≡ None
    → bytes_say separator header fault said bytes ≡ said (after_header header (records_of separator bytes))
said_of_all separator header fault said bytes short none = grind (arith, common_steps)

-- and one with a fault says the fault
pub said_fault : {X : Type 0} (separator : ℕ) (header : Bool) (fault : ℕ → List (List ℕ) → Option ReadFault) (said : Rows → Result X ReadFault) (bytes : List ℕ) (found : ReadFault) → length bytes ≤ MOST_BYTES
    → fault_from fault (first_number header) (after_header header (records_of separator bytes)) ≡ Some found → bytes_say separator header fault said bytes ≡ Err found
said_fault separator header fault said bytes found short some = grind (arith, common_steps)
