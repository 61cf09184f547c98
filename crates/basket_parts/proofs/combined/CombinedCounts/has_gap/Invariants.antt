use Rattle.std.proofs.Common.{◌≡◌, ◌<◌, ℕ, false}
use Rattle.basket_parts.proofs.GapLemmas.{gap_at}
use Rattle.basket_parts.proofs.combined.CombinedCounts.has_gap.Given as goal

abbrev pub invariant-loop-index : goal.invariant-loop-index
invariant-loop-index l = (k : ℕ) → k < l.index → gap_at l.self l.line.count l.items k ≡ false
