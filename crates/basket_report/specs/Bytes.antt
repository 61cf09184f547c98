-- Bytes that are written.
use Rattle.std.specs.Prelude.{◌≡◌, ◌≤◌, ℕ, Bool, true, false, List, Option, Vec, length, take}
use Rattle.std.specs.Global.{Global}
use Rattle.std.specs.Io.KnownBytes.{Appends}
use Rattle.std.specs.List.{flat_map}

-- the bytes of texts, one after another
abbrev pub joined : List (Vec ℕ Global) → List ℕ
joined texts = flat_map (λ text. text.items) texts

-- the writer took a prefix of the text, which may be all of it
abbrev pub TakesPrefix : Option (List ℕ) → Option (List ℕ) → List ℕ → Type 0
TakesPrefix before after text = (count : ℕ) × (count ≤ length text) × Appends before after (take count text)

-- the text was written since the start, or a prefix of it if a write has failed
pub record IsWritten (start taken : Option (List ℕ)) (has_failed ends_in_flush : Bool) (text : List ℕ) : Type 0 where
  pub working : has_failed ≡ false → Appends start taken text
  pub failed : has_failed ≡ true → TakesPrefix start taken text
  pub at_write : has_failed ≡ true → ends_in_flush ≡ false
