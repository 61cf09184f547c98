use Rattle.std.proofs.Common.{◌≤◌, ◌-◌, ℕ, Bool, List, ◌++◌, take, length}
use Rattle.basket_read.specs.Text.{IsTextSoFar}
use Rattle.basket_read.proofs.text.Text.feed.Given as goal

abbrev pub invariant-loop-taken : goal.invariant-loop-taken
invariant-loop-taken l = record {
  within : l.taken ≤ length l.piece;
  text : (counting : Bool) (bytes : List ℕ) → IsTextSoFar l.fn.self counting bytes → IsTextSoFar l.self counting (bytes ++ take l.taken l.piece);
}

abbrev pub decreases-loop-taken : goal.decreases-loop-taken
decreases-loop-taken l = length l.piece - l.taken
