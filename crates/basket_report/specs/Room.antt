-- Texts in a room, concatenated.
use Rattle.std.specs.Prelude.{◌≡◌, ℕ, List, ◌++◌, length, take}

-- the text stands after the first bytes of a room, up to an end
pub record IsPut (old new : List ℕ) (start : ℕ) (text : List ℕ) (end : ℕ) : Type 0 where
  pub bytes : take end new ≡ take start old ++ text
  pub same : length new ≡ length old
