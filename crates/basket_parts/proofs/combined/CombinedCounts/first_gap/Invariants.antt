use Rattle.std.proofs.Common.{◌≡◌, drop}
use Rattle.std.specs.List.{find}
use Rattle.basket_parts.specs.Gap.{is_gap_line}
use Rattle.basket_parts.proofs.combined.CombinedCounts.first_gap.Given as goal

abbrev pub invariant-loop-line : goal.invariant-loop-line
invariant-loop-line l = find (is_gap_line l.self l.minimum) (drop l.line-index l.line-items) ≡ find (is_gap_line l.self l.minimum) l.line-items
