-- A seat of a round as contracts see it.
use Rattle.atomic_table.specs.Seated.{TableId}
use Rattle.mine_round.specs.declared.state.Record.{Record}

-- which round it is of, and the record that it holds
pub record SeatView : Type 0 where
  pub round : TableId
  pub held : Record
