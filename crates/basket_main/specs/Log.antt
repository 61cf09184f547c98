-- Logs of what was done, where they are reported.
use Rattle.std.specs.Prelude.{◌≡◌, ℕ, List, ◌++◌, map, Option, Some, None, Result, Ok, Err, ⊤}
use Rattle.std.specs.IoError.{error_kind}
use Rattle.std.specs.declared.io.Error.{Error}
use Rattle.std.specs.declared.io.ErrorKind.{ErrorKind}

-- a log that is reported has grown by these entries, in this order
abbrev pub Grows : {A : Type 0} → Option (List A) → Option (List A) → List A → Type 0
Grows None after entries = ⊤
Grows (Some before) after entries = after ≡ Some (before ++ entries)

-- where bytes come from: the path of a file, or none for standard input
abbrev pub Origin : Type 0
Origin = Option (List ℕ)

-- what was to be opened, and why it was not, if it was not
abbrev pub Opening : Type 0
Opening = Origin × Option ErrorKind

-- why nothing was opened, if nothing was
abbrev pub refusal_of : {T : Type 0} → Result T Error → Option ErrorKind
refusal_of (Ok x) = None
refusal_of (Err error) = Some (error_kind error)

-- what was opened
abbrev pub openings_of : List Origin → List Opening
openings_of origins = map (λ origin. (origin, None)) origins
