use Rattle.std.proofs.Common.{◌≤◌, ◌+◌, ◌-◌, take, length}
use Rattle.basket_counts.specs.Text.{IsTextSoFar}
use Rattle.basket_counts.proofs.text.listed_in.Given as goal

abbrev pub invariant-loop-text : goal.invariant-loop-text
invariant-loop-text l = record {
  within : l.taken ≤ length l.bytes;
  text : IsTextSoFar l.text (l.before + 1) (take l.taken l.bytes);
}

abbrev pub decreases-loop-text : goal.decreases-loop-text
decreases-loop-text l = length l.bytes - l.taken
