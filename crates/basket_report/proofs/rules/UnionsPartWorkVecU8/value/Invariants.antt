use Rattle.std.proofs.Common.{length}
use Rattle.basket_ranks.specs.Shards.{shard_start}
use Rattle.basket_report.specs.Report.{HasSoFar}
use Rattle.basket_report.specs.Rules.{ReportsUnions}
use Rattle.basket_report.specs.Style.{wording_of}
use Rattle.basket_report.proofs.rules.UnionsPartWorkVecU8.value.Given as goal

abbrev pub invariant-loop-number : goal.invariant-loop-number
invariant-loop-number l = (text : _) × HasSoFar l.report (wording_of l.self.style) text × ReportsUnions (wording_of l.self.style) l.self.frequent.now l.self.confidence (shard_start l.fn.part l.self.parts (length l.self.frequent.now.sets)) l.number text
