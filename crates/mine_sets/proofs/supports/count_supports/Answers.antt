use Rattle.std.proofs.Common.{◌≡◌, ◌≤◌, sym, ◌∙◌, subst, arith, map, length, Ok}
use Rattle.std.proofs.lemmas.Grind.{common_steps}
use Rattle.std.specs.Prelude.{IfOk}
use Rattle.basket_sets.specs.Support.{support_of}
use Rattle.mine_pieces.proofs.theory.Seats.{all_own}
use Rattle.mine_sets.proofs.SupportLemmas.{shares_are_supports}
use Rattle.mine_sets.proofs.supports.count_supports.Goals as goal
use Rattle.mine_sets.proofs.supports.count_supports.Goals.{in-Ok-ended, in-Err}

pub by_workers-requires-clause-accepted : goal.by_workers-requires-clause-accepted
by_workers-requires-clause-accepted g c κs within i seat below is = grind (arith, common_steps)

pub close-requires : goal.close-requires
close-requires g c = record { own = all_own c.in_ok-round.round c.in_ok-seats.ensures.shares c.in_ok-seats.seats.items c.in_ok-seats.ensures.seats (λ k d below. (c.in_ok-seats.ensures.each k d below).call.met.1.own) }

pub returns : goal.returns
returns g c =
    let shares = c.in_ok-seats.ensures.shares in
    let baskets = c.args.baskets.now in
    let sets = c.args.counter.now in
    let cutting = c.for_parts-phase.result.cutting in
    elim c.match-ended.branch [
      | in-Ok-ended w ↦
          (let all : map Ok w.in-Ok-ended.field-0.items ≡ map (λ share. share.values) shares = rw w.in-Ok-ended.is at c.in_ok-seats.ensures.lists in
          let some : 1 ≤ length shares = omega (arith, c.in_ok-seats.ensures.count, c.in_ok-round.ensures.seats, cutting.some_workers.0) in
          let long : length c.in-Ok.totals.counters.items ≡ length sets = omega (arith, c.in-Ok.ensures.counters, c.in-Ok.totals.counters.ok, c.in_ok-round.ensures.round.1, c.len.ensures) in
          subst (λ r. IfOk r (λ supports. supports.items ≡ map (support_of baskets) sets)) (sym w.result-is)
          (shares_are_supports baskets cutting.pieces sets shares w.in-Ok-ended.field-0.items c.in_ok-seats.seats.items c.in-Ok.totals.claimed c.in-Ok.totals.counters.items
          cutting.some_pieces.0 some all (λ k d below. (c.in_ok-seats.ensures.each k d below).call.met.1.values)
          c.in_ok-seats.ensures.seats (λ any. c.in-Ok.ensures.ended any ∙ c.in_ok-round.ensures.round.0) c.in-Ok.ensures.claimed long (λ k below. c.in-Ok.ensures.sums k below)))
      | in-Err w ↦ rw w.result-is tt
    ]
