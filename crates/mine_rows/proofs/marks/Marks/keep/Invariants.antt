use Rattle.std.proofs.Common.{◌≡◌, ◌≤◌, filter, get_or, length, ltb, take}
use Rattle.std.specs.List.{sum_by}
use Rattle.mine_rows.proofs.marks.Marks.keep.Given as goal

abbrev pub invariant-loop-tid : goal.invariant-loop-tid
invariant-loop-tid l = record {
  long : length l.kept.items ≡ length l.tids;
  few : l.count ≤ l.tid-index;
  kept : take l.count l.kept.items ≡ filter (λ tid. ltb 0 (get_or l.self.weights.items tid 0)) (take l.tid-index l.tids);
  few_enough : l.sum ≤ l.most;
  sum : l.sum ≡ sum_by (λ tid. get_or l.self.weights.items tid 0) (take l.tid-index l.tids);
}
