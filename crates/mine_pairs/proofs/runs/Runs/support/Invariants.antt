use Rattle.std.proofs.Common.{◌≡◌, take}
use Rattle.std.specs.List.{sum_by}
use Rattle.mine_baskets.specs.declared.span.Span.{Span}
use Rattle.mine_pairs.proofs.runs.Runs.support.Given as goal

abbrev pub invariant-loop-run : goal.invariant-loop-run
invariant-loop-run l = l.support ≡ sum_by (λ (run : Span). run.weight) (take l.run-index l.run-items)
