-- Each seat that joins adds what it did, and the seats that are left are of the round.
use Rattle.std.proofs.Common.{◌≡◌, List, [], ◌∷◌, ◌++◌, Some, ap, ◌∙◌, sym, subst, arith}
use Rattle.std.proofs.lemmas.Grind.{common_steps}
use Rattle.std.proofs.lemmas.List.Elements.{All-pop}
use Rattle.mine_round.specs.declared.state.Record.{Record}
use Rattle.mine_round.specs.declared.state.SeatState.TheVariants.{Holding}
use Rattle.mine_round.specs.Record.{joined}
use Rattle.mine_round.specs.SeatView.{SeatView}
use Rattle.mine_round.specs.Totals.{Gathers}
use Rattle.mine_round.specs.Words.{record_in}
use Rattle.mine_round.proofs.Gathering.{gathers_first, gathers_next}
use Rattle.mine_round.proofs.seat.join_seats.Goals as goal

pub loop-seat-init : goal.loop-seat-init
loop-seat-init c = grind (arith, common_steps, All-pop, gathers_first)

pub loop-seat-preserved : goal.loop-seat-preserved
loop-seat-preserved c =
    let all : List SeatView = c.args.seats.items in
    let before : List SeatView = c.loop-seat.seats.items in
    let left : List SeatView = c.pop-in-loop-seat.new.self.items in
    let seat : SeatView = c.in-Some-pop.seat in
    let popped : before ≡ left ++ seat ∷ [] = c.in-Some-pop.ensures.items in
    let was = c.loop-seat.invariant in
    let own = All-pop (λ (s : SeatView). s.round ≡ c.args.words.now.shared.table_id) before left (Some seat) popped was.rest in
    let other = c.into_table_seat.ensures in
    let r : Record = record_in c.loop-seat.table_seat.me.0 in
    let now : record_in c.join_seat.new.table_seat.me.0 ≡ joined r seat.held =
    ap (λ m. record_in m.0) c.join_seat.ensures.join ∙ ap (joined r) other.held in
    record {
      own = c.join_seat.ensures.own ∙ was.own;
      holds = c.join_seat.ensures.join ∙ ap (λ q. (Holding q, [])) (ap (joined r) other.held ∙ sym now);
      rest = own.0;
      all = subst (λ (q : Record). Gathers q left all) (sym now)
          (gathers_next r left all seat other.alone (subst (λ (seats : List SeatView). Gathers r seats all) popped was.all));
    }
