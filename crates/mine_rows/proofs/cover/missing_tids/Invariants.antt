use Rattle.std.proofs.Common.{◌≡◌}
use Rattle.std.specs.List.{range_with_len}
use Rattle.mine_rows.specs.Cover.{lacking}
use Rattle.mine_rows.proofs.CoverLemmas.{IsReached}
use Rattle.mine_rows.proofs.cover.missing_tids.Given as goal

abbrev pub invariant-loop-tid : goal.invariant-loop-tid
invariant-loop-tid l = record {
  reached : IsReached l.cover l.tid l.at;
  tids : l.tids.items ≡ lacking (range_with_len 0 l.tid) l.cover;
}
