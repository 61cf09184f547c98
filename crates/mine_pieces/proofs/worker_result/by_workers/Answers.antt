use Rattle.std.proofs.Common.{◌≡◌, ◌<◌, ℕ, List, ap, subst, sym, arith, length, get_or}
use Rattle.std.proofs.lemmas.Grind.{common_steps}
use Rattle.std.specs.Fn.{FnReturns}
use Rattle.std.specs.List.{enumerate_from}
use Rattle.std.proofs.lemmas.List.FromFn.{get_or-enumerate_from, length-enumerate_from}
use Rattle.mine_round.specs.SeatView.{SeatView}
use Rattle.mine_pieces.proofs.worker_result.by_workers.Goals as goal

-- the worker at a place has its number, and the seat there
worker_at : (workers : List (ℕ × SeatView)) (seats : List SeatView) → workers ≡ enumerate_from 0 seats → (place : ℕ) (worker : ℕ × SeatView) → place < length workers → worker ≡ get_or workers place worker
    → (worker.0 ≡ place) × (worker.1 ≡ get_or seats place worker.1)
worker_at workers seats are place worker below is = grind (arith, common_steps, length-enumerate_from, get_or-enumerate_from)

pub map_vec-requires-after_bounds : goal.map_vec-requires-after_bounds
map_vec-requires-after_bounds g c κs within i x below is =
    let workers = c.in_ok-numbered.field-0.items in
    let at = worker_at workers c.args.seats.items c.in_ok-numbered.ensures.numbers i x below is in
    let short : i < length c.args.seats.items = omega (arith, below, ap length c.in_ok-numbered.ensures.numbers, length-enumerate_from 0 c.args.seats.items) in
    subst (λ n. g.F.Fn.pre c.args.work.now ((n, x.1), tt)) (sym at.0) (c.requires.accepted i x.1 short at.1)

pub returns : goal.returns
returns g c =
    let workers = c.in_ok-numbered.field-0.items in
    record {
      shares = c.in_ok-shares.shares.items;
      count = omega (arith, c.in_ok-shares.ensures.len, ap length c.in_ok-numbered.ensures.numbers, length-enumerate_from 0 c.args.seats.items);
      each = λ worker d below.
          let short : worker < length workers = omega (arith, below, c.in_ok-shares.ensures.len) in
          let gives = (c.in_ok-shares.ensures.each worker d short).1 in
          let at = worker_at workers c.args.seats.items c.in_ok-numbered.ensures.numbers worker gives.job short gives.job_read in
          record {
            seat = gives.job.1;
            given = at.1;
            call = subst (λ n. FnReturns g.F.Fn c.args.work.now ((n, gives.job.1), tt) (get_or c.in_ok-shares.shares.items worker d)) at.0 gives.call;
          };
      seats = c.parted.ensures.seats;
      lists = c.parted.ensures.lists;
      fault = c.parted.ensures.fault;
    }
