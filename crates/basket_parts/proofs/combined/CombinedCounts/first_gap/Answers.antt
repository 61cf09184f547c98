use Rattle.std.proofs.Common.{arith}
use Rattle.std.proofs.lemmas.Grind.{common_steps}
use Rattle.basket_parts.proofs.GapLemmas.{found_none, first_gap_line}
use Rattle.basket_parts.proofs.combined.CombinedCounts.first_gap.Goals as goal

pub returns : goal.returns
returns c = grind (arith, common_steps, found_none, first_gap_line)
