use Rattle.std.proofs.Common.{ℕ, [], length, ap, ◌∙◌}
use Rattle.std.proofs.lemmas.List.{length-replicate}
use Rattle.atomic_table.specs.Table.{Me}
use Rattle.mine_round.specs.declared.state.SeatState.{SeatState}
use Rattle.mine_round.specs.declared.state.SeatState.TheVariants.{Holding}
use Rattle.mine_round.specs.Record.{unused, with_one_part_less}
use Rattle.mine_round.specs.Words.{record_in}
use Rattle.mine_round.proofs.words.cut_seat.Goals as goal

pub returns : goal.returns
returns c =
    let is = c.requires.unused in
    let told = c.split_seat.ensures in
    let before = c.args.table_seat.now.me in
    record {
      own = (told.0, told.3);
      left = told.2 ∙ ap (λ (m : Me (Unit {0}) SeatState). (Holding (with_one_part_less (record_in m.0)), m.1)) is;
      cut = told.4 ∙ ap (λ (n : ℕ). (Holding (unused 1 n), [])) (ap (λ (m : Me (Unit {0}) SeatState). length (record_in m.0).added) is ∙ length-replicate c.args.words.now.shared.key.counters 0);
    }
