use Rattle.std.proofs.Common.{◌≡◌, ◌≤◌, ◌-◌, ℕ, List, ◌++◌, take, length, None}
use Rattle.basket_read.specs.Numbers.{IsNumbersSoFar}
use Rattle.basket_read.proofs.numbers.Numbers.take_run.Given as goal

abbrev pub invariant-loop-self : goal.invariant-loop-self
invariant-loop-self l = record {
  within : l.taken ≤ length l.bytes;
  between : l.self.begun ≡ None;
  numbers : (text : List ℕ) → IsNumbersSoFar l.initial.self text → IsNumbersSoFar l.self (text ++ take l.taken l.bytes);
}

abbrev pub decreases-loop-self : goal.decreases-loop-self
decreases-loop-self l = length l.bytes - l.taken
