use Rattle.std.proofs.Common.{◌≡◌, ◌+◌, ◌-◌, ap, ◌∙◌, arith}
use Rattle.mine_round.specs.declared.state.SeatState.TheVariants.{Holding}
use Rattle.mine_round.specs.Record.{with_add}
use Rattle.mine_round.specs.Words.{record_in}
use Rattle.mine_round.proofs.Rule.{adds}
use Rattle.mine_round.proofs.words.add_amount.Goals as goal

pub fetch_add-requires : goal.fetch_add-requires
fetch_add-requires c = (c.requires.own, omega arith, adds c.args.words.now.shared.key _ _ _ c.requires.holds c.args.counter c.args.amount c.requires.counter c.requires.room)

pub returns : goal.returns
returns c =
    let one : (c.args.counter + 1) - 1 ≡ c.args.counter = omega arith in
    let told = rw one at c.fetch_add.ensures.2 in
    record {
      own = c.fetch_add.ensures.0;
      add = told.0 ∙ ap (λ l. (Holding (with_add (record_in c.args.table_seat.now.me.0) c.args.counter c.fetch_add.result c.args.amount), l)) (ap (λ m. m.1) c.requires.holds);
      known = told.1;
    }
