-- A round as contracts see it.
use Rattle.std.specs.Prelude.{ℕ}
use Rattle.atomic_table.specs.Seated.{TableId}

-- which round it is, and how many pieces, counters and seats it was made for
pub record RoundView : Type 0 where
  pub id : TableId
  pub pieces : ℕ
  pub counters : ℕ
  pub seats : ℕ
