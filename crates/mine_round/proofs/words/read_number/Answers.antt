use Rattle.std.proofs.Common.{◌≡◌, ◌+◌, ◌-◌, ap, ◌∙◌, arith}
use Rattle.mine_round.specs.declared.state.SeatState.TheVariants.{Holding}
use Rattle.mine_round.specs.Record.{with_read}
use Rattle.mine_round.specs.Words.{record_in}
use Rattle.mine_round.proofs.Rule.{reads}
use Rattle.mine_round.proofs.words.read_number.Goals as goal

pub load-requires : goal.load-requires
load-requires c = (c.requires.own, omega arith, reads c.args.words.now.shared.key _ _ _ c.requires.holds c.args.counter c.requires.counter)

pub returns : goal.returns
returns c =
    let one : (c.args.counter + 1) - 1 ≡ c.args.counter = omega arith in
    let told = rw one at c.load.ensures.2 in
    record {
      own = c.load.ensures.0;
      read = told.0 ∙ ap (λ l. (Holding (with_read (record_in c.args.table_seat.now.me.0) c.args.counter c.load.result), l)) (ap (λ m. m.1) c.requires.holds);
      known = told.1;
    }
