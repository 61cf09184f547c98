-- The support of an item while items are counted.
use Rattle.std.specs.Prelude.{◌≡◌, ℕ, zero, suc, ◌+◌, Option, Some, None, unwrap_or, refl}

-- the support that a slot's number stands for: nothing at 0, and else one less
abbrev pub support_in : ℕ → Option ℕ
support_in zero = None
support_in (suc support) = Some support

-- the number of a slot with a support, or with nothing
abbrev pub above_of : Option ℕ → ℕ
above_of None = zero
above_of (Some support) = suc support

pub above_of-support_in : (above : ℕ) → above_of (support_in above) ≡ above
above_of-support_in zero = refl
above_of-support_in (suc support) = refl

-- a slot with some more weight
abbrev pub slot_with : ℕ → Option ℕ → Option ℕ
slot_with weight slot = Some (unwrap_or slot 0 + weight)

-- a slot with the support of another
abbrev pub slots_joined : Option ℕ → Option ℕ → Option ℕ
slots_joined slot None = slot
slots_joined slot (Some support) = slot_with support slot
