use Rattle.std.proofs.Common.{ap, ◌∙◌}
use Rattle.mine_round.specs.declared.state.SeatState.TheVariants.{Holding}
use Rattle.mine_round.specs.Record.{joined}
use Rattle.mine_round.specs.Words.{record_in}
use Rattle.mine_round.proofs.words.join_seat.Goals as goal

pub returns : goal.returns
returns c = record {
  own = c.join_seat.ensures.0;
  join = c.join_seat.ensures.2 ∙ ap (λ l. (Holding (joined (record_in c.args.table_seat.now.me.0) (record_in c.args.other.me.0)), l)) (ap (λ m. m.1) c.requires.holds.0);
}
