use Rattle.std.proofs.Common.{◌≡◌, ◌≤◌, None, replicate, vec_capacity, vec_len}
use Rattle.mine_round.proofs.collector.Collector.new.Given as goal

abbrev pub invariant-loop : goal.invariant-loop
invariant-loop g l = record {
  made : l.places.items ≡ replicate l.counter None;
  number : vec_len l.places ≡ l.counter;
  room : l.count ≤ vec_capacity l.places;
}
