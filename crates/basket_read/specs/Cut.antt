-- A list cut at some of its elements.
use Rattle.std.specs.Prelude.{ℕ, Bool, List, [], ◌∷◌, ◌++◌, fold, if◌then◌else◌}

-- a cut list: the parts that have ended, and the last part, which may be empty
pub record Cut : Type 0 where
  pub ended : List (List ℕ)
  pub last : List ℕ

-- one element more: a separator ends the last part, any other element joins it
abbrev pub cut_more : (ℕ → Bool) → Cut → ℕ → Cut
cut_more is_separator cut x =
    if is_separator x then record { ended = cut.ended ++ cut.last ∷ []; last = [] }
    else record { ended = cut.ended; last = cut.last ++ x ∷ [] }

-- a list cut at its separators
abbrev pub cut_at : (ℕ → Bool) → List ℕ → Cut
cut_at is_separator xs = fold (cut_more is_separator) (record { ended = []; last = [] }) xs

-- the parts between the separators, one more than there are separators
abbrev pub parts_of : (ℕ → Bool) → List ℕ → List (List ℕ)
parts_of is_separator xs = (cut_at is_separator xs).ended ++ (cut_at is_separator xs).last ∷ []
