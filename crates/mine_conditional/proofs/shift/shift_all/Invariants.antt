use Rattle.std.proofs.Common.{◌≡◌, ℕ, take}
use Rattle.std.specs.List.{list_any}
use Rattle.mine_baskets.specs.Words.{has_rank}
use Rattle.mine_conditional.specs.Shift.{shifted}
use Rattle.mine_conditional.proofs.shift.shift_all.Given as goal

abbrev pub invariant-loop-shift : goal.invariant-loop-shift
invariant-loop-shift l = (number : ℕ) → has_rank l.moved number ≡ list_any (λ shift. has_rank (shifted l.bits shift) number) (take l.shift-index l.shifts)
