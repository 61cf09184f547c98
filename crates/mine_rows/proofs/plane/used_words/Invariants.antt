use Rattle.std.proofs.Common.{◌≡◌, ◌≤◌, drop, length}
use Rattle.std.specs.Prelude.{All}
use Rattle.mine_rows.proofs.plane.used_words.Given as goal

abbrev pub invariant-loop-used : goal.invariant-loop-used
invariant-loop-used l = (l.used ≤ length l.words) × All (λ word. word ≡ 0) (drop l.used l.words)

abbrev pub decreases-loop-used : goal.decreases-loop-used
decreases-loop-used l = l.used
