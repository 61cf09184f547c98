-- The fields of a record, the last of them, and its last byte.
use Rattle.std.proofs.Common.{◌≡◌, Bor, ℕ, zero, suc, ◌-◌, ◌<◌, ◌≤◌, false, eqb, List, [], ◌∷◌, ◌++◌, length, map, get_or, Option, Some, None, unwrap_or, refl, arith}
use Rattle.std.proofs.lemmas.Grind.{common_steps}
use Rattle.std.specs.Prelude.{option_copied, option_map, slice_get}
use Rattle.std.specs.Slice.{IsItemAt}
use Rattle.csv.specs.Records.{field_at}
use Rattle.basket_csv.specs.Record.{last_after, may_go_on}

-- ---- the last of a list

pub last_push : {X : Type 0} (d x : X) (xs : List X) → last_after d (xs ++ x ∷ []) ≡ x
last_push d x [] = refl
last_push d x (y ∷ xs) = last_push y x xs

-- ---- how a record ends

last_field : (field : List ℕ) (fields : List (List ℕ)) → field_at (field ∷ fields) (length fields) ≡ Some (last_after field fields)
unfolding field_at
last_field field [] = refl
last_field field (next ∷ fields) = last_field next fields

last_byte : (byte : ℕ) (bytes : List ℕ) → slice_get (byte ∷ bytes) (length bytes) ≡ Some (last_after byte bytes)
last_byte byte [] = refl
last_byte byte (next ∷ bytes) = last_byte next bytes

last_in : (field : List ℕ) → unwrap_or (slice_get field (length field - 1)) 0 ≡ last_after 0 field
last_in [] = refl
last_in (byte ∷ bytes) = grind (arith, common_steps, last_byte byte bytes)

-- a record may go on if its last field has a last byte, which is a line feed
pub some_field : (fields : List (List ℕ)) (index : ℕ) (field : List ℕ) (byte : Option ℕ) → index ≡ length fields - 1 → Some field ≡ field_at fields index
    → byte ≡ slice_get field (length field - 1) → may_go_on fields ≡ eqb (unwrap_or byte 0) 10
unfolding field_at
some_field [] index field byte at_index is ends = absurd cc
some_field (first ∷ fields) index field byte at_index is ends = grind (arith, common_steps, last_field first fields, last_in field)

pub no_field : (fields : List (List ℕ)) (index : ℕ) → index ≡ length fields - 1 → None ≡ field_at fields index → may_go_on fields ≡ false
no_field [] index at_index is = refl
no_field (first ∷ fields) index at_index is = grind (arith, common_steps, last_field first fields)

-- ---- the field at an index

abbrev pub texts : List (Bor (List ℕ)) → List (List ℕ)
texts fields = map (λ field. field.now) fields

field_there : (fields : List (Bor (List ℕ))) (index : ℕ) (other : Bor (List ℕ)) → index < length fields → Some (get_or fields index other).now ≡ field_at (texts fields) index
unfolding field_at
field_there [] index other below = absurd (omega arith)
field_there (field ∷ fields) zero other below = refl
field_there (field ∷ fields) (suc index) other below = field_there fields index other (omega arith)

field_beyond : (fields : List (Bor (List ℕ))) (index : ℕ) → length fields ≤ index → None ≡ field_at (texts fields) index
unfolding field_at
field_beyond [] index all = refl
field_beyond (field ∷ fields) zero all = absurd (omega arith)
field_beyond (field ∷ fields) (suc index) all = field_beyond fields index (omega arith)

pub field_got : (fields : List (Bor (List ℕ))) (index : ℕ) (got : Option (Bor (Bor (List ℕ)))) → IsItemAt fields index got
    → option_map (λ (field : Bor (List ℕ)). field.now) (option_copied got) ≡ field_at (texts fields) index
field_got h1 h2 h3 h4 = grind (arith, common_steps, field_beyond, field_there)
