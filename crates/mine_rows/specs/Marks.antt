-- Tids that are marked.
use Rattle.std.specs.Prelude.{◌≡◌, ℕ, Bool, List, length, slice_index, if◌then◌else◌}
use Rattle.mine_rows.specs.declared.marks.Marks.{Marks}

-- the tids that pass a test have their weights as marks, and the others have none
pub record IsMarked (weights : List ℕ) (test : ℕ → Bool) (marks : Marks) : Type 0 where
  pub long : length marks.weights.items ≡ length weights
  pub at : (tid : ℕ) → slice_index marks.weights.items tid ≡ (if test tid then slice_index weights tid else 0)
