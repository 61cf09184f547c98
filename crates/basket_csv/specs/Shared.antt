-- The parts of a text that were read up to an index.
use Rattle.std.specs.Prelude.{◌≡◌, ◌≤◌, ◌+◌, ℕ, Bool, true, List, ◌++◌, Option, None, drop, length}
use Rattle.basket_read.specs.declared.fault.ReadFault.{ReadFault}
use Rattle.basket_csv.specs.declared.shared.ReadPart.{ReadPart}
use Rattle.basket_csv.specs.declared.shared.RightParts.{RightParts}
use Rattle.basket_csv.specs.Csv.{after_header, fault_from, first_number}
use Rattle.basket_csv.specs.Parts.{IsWhole}
use Rattle.basket_csv.specs.Records.{records_of}
use Rattle.basket_csv.specs.Rows.{InParts, Rows}

-- the records have no fault, whatever their numbers
abbrev pub AreFaultless : (ℕ → List (List ℕ) → Option ReadFault) → Rows → Type 0
AreFaultless fault rows = (nth : ℕ) → fault_from fault nth rows ≡ None

-- these are the records of some bytes, and have no fault
pub record IsReadPart {C : Type 0} (has : C → Rows → Type 0) (fault : ℕ → List (List ℕ) → Option ReadFault) (separator : ℕ) (header : Bool) (bytes : List ℕ) (read : ReadPart C) : Type 0 where
  pub part : has read.part (after_header header (records_of separator bytes))
  pub count : read.records ≡ length (after_header header (records_of separator bytes))
  pub faultless : AreFaultless fault (after_header header (records_of separator bytes))
  pub whole : read.whole ≡ true → IsWhole separator header bytes

-- the parts have the records up to the index, which are faultless, and the bytes after it have the others
pub record AreRight {C : Type 0} (has : C → Rows → Type 0) (fault : ℕ → List (List ℕ) → Option ReadFault) (separator : ℕ) (header : Bool) (bytes : List ℕ) (right : RightParts C) : Type 0 where
  pub rows : Rows
  pub parts : InParts has right.parts.items rows
  pub within : right.end ≤ length bytes
  pub number : right.before + first_number right.header ≡ first_number header + length rows
  pub faultless : AreFaultless fault rows
  pub all : after_header header (records_of separator bytes) ≡ rows ++ after_header right.header (records_of separator (drop right.end bytes))
