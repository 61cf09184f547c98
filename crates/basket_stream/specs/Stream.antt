-- What a read or a write says of the bytes, and of a failure.
use Rattle.std.specs.Prelude.{ℕ, Bool, true, false, ◌&&◌, ◌==◌, nat_lt, List, length, Result, Ok, Err}

-- a read or a flush fails exactly if it returns an error
abbrev pub read_fails : {T E : Type 0} → Result T E → Bool
read_fails (Ok x) = false
read_fails (Err e) = true

-- a read ends the input if it gives nothing to a buffer that has room
abbrev pub read_ends : {E : Type 0} → Result ℕ E → List ℕ → Bool
read_ends (Ok given) buffer = given == 0 && nat_lt 0 (length buffer)
read_ends (Err e) buffer = false

-- a write fails if it returns an error, or if it takes nothing of a nonempty piece
abbrev pub write_fails : {E : Type 0} → Result ℕ E → List ℕ → Bool
write_fails (Ok taken) bytes = taken == 0 && nat_lt 0 (length bytes)
write_fails (Err e) bytes = true
