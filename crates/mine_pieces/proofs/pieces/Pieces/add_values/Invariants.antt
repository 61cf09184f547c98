use Rattle.std.proofs.Common.{◌≡◌, ◌≤◌, ◌-◌, ◌++◌}
use Rattle.std.specs.Prelude.{All}
use Rattle.std.specs.List.{range_with_len}
use Rattle.mine_pieces.specs.WorkerResult.{numbers_of}
use Rattle.mine_pieces.proofs.pieces.Pieces.add_values.Given as goal

abbrev pub invariant-loop-part : goal.invariant-loop-part
invariant-loop-part g l = record {
  within : (l.start ≤ l.part) × (l.part ≤ l.end);
  tools : g.P.PartWork.are_tools l.self.work.now l.tools;
  parts : numbers_of l.values.items ≡ numbers_of l.initial.values.items ++ range_with_len l.start (l.part - l.start);
  each : All (λ value. g.P.PartWork.is_value l.self.work.now value.0 value.1) l.values.items;
}
