use Rattle.std.proofs.Common.{rules, ◌≡◌, ◌≤◌, ap, sym, ◌∙◌, arith, map, length, Ok}
use Rattle.std.proofs.lemmas.Result.{IfOk-weaker}
use Rattle.mine_round.specs.Lawful.{once_below}
use Rattle.mine_round.specs.SeatView.{SeatView}
use Rattle.mine_pieces.specs.Pieces.{HasEach, parts_of}
use Rattle.mine_pieces.proofs.theory.Placing.{parts_once}
use Rattle.mine_pieces.proofs.theory.Seats.{all_own}
use Rattle.mine_pieces.proofs.theory.Shares.{have_each, hold_numbers}
use Rattle.mine_pieces.proofs.pieces.by_pieces.Goals as goal

pub by_workers-requires-clause-accepted : goal.by_workers-requires-clause-accepted
by_workers-requires-clause-accepted g c κs within i seat below is =
    let unused = c.in_ok-round.ensures.unused i seat below in
    let none = ap (λ (s : SeatView). s.held.claimed) is ∙ ap (λ h. h.claimed) unused.1 in
    ((ap (λ (s : SeatView). s.round) is ∙ unused.0, none, c.in_ok-round.ensures.round.0), search rules)

pub close-requires : goal.close-requires
close-requires g c = record { own = all_own c.in_ok-round.round c.in_ok-seats.ensures.shares c.in_ok-seats.seats.items c.in_ok-seats.ensures.seats (λ k d below. (c.in_ok-seats.ensures.each k d below).call.met.1.own) }

pub collected-requires : goal.collected-requires
collected-requires g c x =
    let parts = g.P.PartWork.part_count c.args.work.now in
    let cutting = c.for_parts-phase.result.cutting in
    let shares = c.in_ok-seats.ensures.shares in
    let lists = c.in-Ok-values.lists.items in
    let all : map Ok lists ≡ map (λ share. share.values) shares = rw c.in-Ok-values.is at c.in_ok-seats.ensures.lists in
    let some : 1 ≤ length shares = omega (arith, c.in_ok-seats.ensures.count, c.in_ok-round.ensures.seats, cutting.some_workers.0) in
    hold_numbers (g.P.PartWork.is_value c.args.work.now) (parts_of parts cutting.pieces) c.in_ok-round.round shares lists all (λ k d below. (c.in_ok-seats.ensures.each k d below).call.met.1)
    c.in_ok-seats.seats.items _ cutting.pieces c.in_ok-seats.ensures.seats some (λ any. c.in-Ok.ensures.ended any ∙ c.in_ok-round.ensures.round.0) c.in-Ok.ensures.claimed
    parts (parts_once parts cutting.pieces cutting.some_pieces.0) x
    ∙ ap (λ n. once_below n x) (sym c.parts-parts.ensures)

pub returns : goal.returns
returns g c =
    let is_value = g.P.PartWork.is_value c.args.work.now in
    let parts = g.P.PartWork.part_count c.args.work.now in
    let shares = c.in_ok-seats.ensures.shares in
    let lists = c.in-Ok-values.lists.items in
    let all : map Ok lists ≡ map (λ share. share.values) shares = rw c.in-Ok-values.is at c.in_ok-seats.ensures.lists in
    IfOk-weaker c.collected.result _ (λ values. HasEach is_value parts values.items)
    (λ values placed. have_each is_value (parts_of parts c.for_parts-phase.result.cutting.pieces) c.in_ok-round.round shares lists all (λ k d below. (c.in_ok-seats.ensures.each k d below).call.met.1)
    parts values.items (rw c.parts-parts.ensures at placed)) c.collected.ensures
