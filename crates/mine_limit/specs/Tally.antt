use Rattle.std.specs.Prelude.{ℕ}

-- a limit, and how many sets were told
pub record Told : Type 0 where
  pub limit : ℕ
  pub told : ℕ
