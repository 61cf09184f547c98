use Rattle.std.proofs.Common.{ap, ◌∙◌}
use Rattle.mine_round.specs.declared.state.SeatState.TheVariants.{Holding}
use Rattle.mine_round.specs.Record.{with_claim}
use Rattle.mine_round.specs.Words.{record_in}
use Rattle.mine_round.proofs.Rule.{claims}
use Rattle.mine_round.proofs.words.claim_number.Goals as goal

pub fetch_add-requires : goal.fetch_add-requires
fetch_add-requires g c = (c.requires.own, c.requires.sized, rw c.requires.pieces (claims c.args.words.now.shared.key _ _ _ c.requires.holds c.requires.open))

pub returns : goal.returns
returns g c =
    let before = c.args.table_seat.now.me in
    record {
      own = c.fetch_add.ensures.0;
      claim = rw (← c.requires.pieces) (c.fetch_add.ensures.2.0 ∙ ap (λ l. (Holding (with_claim (record_in before.0) g.B.Pieces.pieces c.fetch_add.result), l)) (ap (λ m. m.1) c.requires.holds));
      rises = c.fetch_add.ensures.2.1;
    }
