-- The places of a collector.
use Rattle.std.specs.Prelude.{ℕ, List, Option, slice_get, IsSome, IsNone, IsSomeAnd}

-- the piece has a place with a value
abbrev pub HasValue : {T : Type 0} → List (Option T) → ℕ → Type 0
HasValue places piece = IsSomeAnd (slice_get places piece) IsSome

-- the piece has a place with no value
abbrev pub LacksValue : {T : Type 0} → List (Option T) → ℕ → Type 0
LacksValue places piece = IsSomeAnd (slice_get places piece) IsNone
