use Rattle.std.proofs.Common.{ℕ, Bool, List, ◌++◌, take}
use Rattle.basket_read.specs.Input.{IsInputSoFar}
use Rattle.basket_read.proofs.input.Input.take.Given as goal

abbrev pub invariant-loop-index : goal.invariant-loop-index
invariant-loop-index g l = (counting : Bool) (bytes : List ℕ) → IsInputSoFar l.initial.self counting bytes → IsInputSoFar l.self counting (bytes ++ take l.index l.piece)
