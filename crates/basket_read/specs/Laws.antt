-- Laws on the grammar and on faults.
use Rattle.std.specs.Prelude.{◌≡◌, ℕ, ◌+◌, List, [], ◌++◌, length, Some, None}
use Rattle.std.specs.Option.{option_map}
use Rattle.basket_read.specs.declared.fault.ReadFault.{ReadFault}
use Rattle.basket_read.specs.declared.fault.ReadFault.TheVariants.{Byte, Number}
use Rattle.basket_read.specs.Cut.{cut_at}
use Rattle.basket_read.specs.Fimi.{is_line_feed, baskets_of, first_fault, or_else, fault_in, settled_fault}

-- bytes with a settled fault have it whatever follows
abbrev pub SettledFaultsStay : Type 0
SettledFaultsStay = (bytes more : List ℕ) (fault : ReadFault) → settled_fault bytes ≡ Some fault → fault_in (bytes ++ more) ≡ Some fault

-- bytes without a settled fault may go on so that they have none
abbrev pub UnsettledMayBeGood : Type 0
UnsettledMayBeGood = (bytes : List ℕ) → settled_fault bytes ≡ None → (more : List ℕ) × (fault_in (bytes ++ more) ≡ None)

-- the fault of a text after so many lines
abbrev pub counted_on : ℕ → ReadFault → ReadFault
counted_on lines (Byte line byte) = Byte (lines + line) byte
counted_on lines (Number line) = Number (lines + line)
counted_on lines fault = fault

-- what the lines and the rest say, one after the other
pub record SaysBoth (lines rest : List ℕ) : Type 0 where
  pub baskets : baskets_of (lines ++ rest) ≡ baskets_of lines ++ baskets_of rest
  pub fault : first_fault (lines ++ rest) ≡ or_else (first_fault lines) (option_map (counted_on (length (cut_at is_line_feed lines).ended)) (first_fault rest))

-- a text that is cut after a line feed says what its parts say, the line of a fault counted on
abbrev pub LinesSayTheirs : Type 0
LinesSayTheirs = (lines rest : List ℕ) → (cut_at is_line_feed lines).last ≡ [] → SaysBoth lines rest
