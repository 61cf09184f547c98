use Rattle.std.proofs.Common.{◌-◌, ◌≤◌, ℕ, drop, length, arith}
use Rattle.std.proofs.lemmas.List.{length-take, take-take}
use Rattle.mine_supports.proofs.CounterLemmas.{supports_joined}
use Rattle.mine_supports.proofs.counter.RowCounter.add.Goals as goal

pub loop-start-preserved : goal.loop-start-preserved
loop-start-preserved c =
    let baskets = c.args.baskets.now in
    let start = c.loop-start.start in
    let read = c.in_ok-start.field-0 in
    let size : ℕ = length baskets - start in
    let within = c.in_ok-start.ensures.within in
    let le : read ≤ size = omega (arith, within.1, length-take size (drop start baskets)) in
    record {
      within = omega (arith, le, c.loop-start-test.true);
      added = supports_joined c.args.self.now baskets _ start read (take-take read size (drop start baskets) le) c.args.counts.now c.loop-start.counts c.loop-start.auto.counts
          c.loop-start.invariant.added c.add_block.new.counts c.in_ok-start.ensures.added;
    }
