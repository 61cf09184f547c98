-- The faults of inputs, and what readers return.
use Rattle.std.specs.Prelude.{◌≡◌, ◌≢◌, ℕ, Bool, true, false, List, Option, Some, IfSome, Result, Ok, Err, Vec}
use Rattle.basket_read.specs.declared.fault.ReadFault.{ReadFault}
use Rattle.basket_read.specs.declared.fault.ReadFault.TheVariants.{Memory, Read, TooLong, Byte, Number, NotText, ShortRecord, Heavy, Weight, Count, NoCount, NoTotal, Subset, RecordCount}

-- the number by which programs tell the faults apart
abbrev pub number_of_fault : ReadFault → ℕ
number_of_fault Memory = 1
number_of_fault Read = 2
number_of_fault TooLong = 3
number_of_fault (Byte line byte) = 4
number_of_fault (Number line) = 5
number_of_fault (NotText nth) = 6
number_of_fault (ShortRecord nth) = 7
number_of_fault Heavy = 8
number_of_fault (Weight nth) = 9
number_of_fault (Count line) = 10
number_of_fault (NoCount line) = 11
number_of_fault NoTotal = 12
number_of_fault (Subset line) = 13
number_of_fault (RecordCount nth) = 14

-- what follows of a result, or its fault
abbrev pub result_and_then : {X Y : Type 0} → (X → Result Y ReadFault) → Result X ReadFault → Result Y ReadFault
result_and_then next (Ok x) = next x
result_and_then next (Err fault) = Err fault

-- except if memory is out, the fault is the one that was found
abbrev pub ReturnsFault : ReadFault → Option ReadFault → Type 0
ReturnsFault fault found = fault ≢ Memory → found ≡ Some fault

-- except if memory is out, what was read fits the result that is defined, or the fault is that of this result
abbrev pub ReturnsBy : {X Y : Type 0} → (X → Result Y ReadFault → Type 0) → Result X ReadFault → Result Y ReadFault → Type 0
ReturnsBy fits (Ok read) defined = fits read defined
ReturnsBy fits (Err fault) defined = fault ≢ Memory → defined ≡ Err fault

-- what was read is what is defined; of a list, and of a list with something else
abbrev pub IsDefined : {X : Type 0} → X → Result X ReadFault → Type 0
IsDefined read defined = defined ≡ Ok read

abbrev pub IsDefinedList : {X A : Type 0} → Vec X A → Result (List X) ReadFault → Type 0
IsDefinedList read defined = defined ≡ Ok read.items

abbrev pub AreDefined : {X Y A : Type 0} → Vec X A × Y → Result (List X × Y) ReadFault → Type 0
AreDefined read defined = defined ≡ Ok (read.0.items, read.1)

-- except if memory is out, the result is the one that is defined
abbrev pub Returns : {X : Type 0} → Result X ReadFault → Result X ReadFault → Type 0
Returns = ReturnsBy IsDefined

abbrev pub ReturnsList : {X A : Type 0} → Result (Vec X A) ReadFault → Result (List X) ReadFault → Type 0
ReturnsList = ReturnsBy IsDefinedList

abbrev pub ReturnsBoth : {X Y A : Type 0} → Result (Vec X A × Y) ReadFault → Result (List X × Y) ReadFault → Type 0
ReturnsBoth = ReturnsBy AreDefined

-- what a reader promises that had these bytes left and then failed or not: what was read fits the result that is defined of all its bytes; or, except if memory is out, the fault is that of this result; or it failed, and the fault is such a one. Only then it is `Read`
abbrev pub Reads : {X Y : Type 0} → (X → Result Y ReadFault → Type 0) → (List ℕ → Result Y ReadFault) → (ReadFault → Type 0) → Option (List ℕ) → Bool → Result X ReadFault → Type 0
Reads fits defined fails left failed (Ok read) = (failed ≡ false) × IfSome left (λ bytes. fits read (defined bytes))
Reads fits defined fails left failed (Err fault) =
    (failed ≡ false → IfSome left (λ bytes. fault ≢ Memory → defined bytes ≡ Err fault)) × (failed ≡ true → fails fault) × (fault ≡ Read → failed ≡ true)

-- the fault is that of the reader
abbrev pub IsRead : ReadFault → Type 0
IsRead fault = fault ≡ Read
