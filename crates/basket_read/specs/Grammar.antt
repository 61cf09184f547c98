-- Texts of bytes, by which of them are good and by the fault of a byte after a good one.
use Rattle.std.specs.Prelude.{◌≡◌, ◌↔◌, ℕ, Bool, true, false, List, [], ◌∷◌, ◌++◌, if◌then◌else◌, Option, Some, None}
use Rattle.basket_read.specs.declared.fault.ReadFault.{ReadFault}

-- the first fault in a text that goes on after a good prefix: at the first byte with which the text so far is not good
abbrev pub first_fault_by : (List ℕ → Bool) → (List ℕ → ℕ → ReadFault) → List ℕ → List ℕ → Option ReadFault
first_fault_by is_good fault_at before [] = None
first_fault_by is_good fault_at before (byte ∷ text) = if is_good (before ++ byte ∷ []) then first_fault_by is_good fault_at (before ++ byte ∷ []) text else Some (fault_at before byte)

-- each prefix of a good text is good
abbrev pub PrefixesAreGood : (List ℕ → Bool) → Type 0
PrefixesAreGood is_good = (prefix rest : List ℕ) → is_good (prefix ++ rest) ≡ true → is_good prefix ≡ true

-- a text is good, or it has a first fault, and not both
abbrev pub GoodIsFaultless : (List ℕ → Bool) → (List ℕ → ℕ → ReadFault) → Type 0
GoodIsFaultless is_good fault_at = (text : List ℕ) → (is_good text ≡ true) ↔ (first_fault_by is_good fault_at [] text ≡ None)

-- the text has this fault at a byte: what stands before the byte is good, and with the byte it is not
pub record HasFault (is_good : List ℕ → Bool) (fault_at : List ℕ → ℕ → ReadFault) (text : List ℕ) (fault : ReadFault) : Type 0 where
  pub before : List ℕ
  pub byte : ℕ
  pub rest : List ℕ
  pub whole : text ≡ before ++ byte ∷ rest
  pub good : is_good before ≡ true
  pub bad : is_good (before ++ byte ∷ []) ≡ false
  pub told : fault ≡ fault_at before byte

-- the first fault is that of the one byte that ends a good text badly
abbrev pub FirstFaultIsExact : (List ℕ → Bool) → (List ℕ → ℕ → ReadFault) → Type 0
FirstFaultIsExact is_good fault_at = (text : List ℕ) (fault : ReadFault) → (first_fault_by is_good fault_at [] text ≡ Some fault) ↔ HasFault is_good fault_at text fault
