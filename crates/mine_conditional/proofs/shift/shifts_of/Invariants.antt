use Rattle.std.proofs.Common.{◌++◌, ◌∷◌, [], ℕ, map}
use Rattle.mine_conditional.specs.Shift.{AreShifts}
use Rattle.mine_conditional.proofs.shift.shifts_of.Given as goal

abbrev pub invariant-loop-number : goal.invariant-loop-number
invariant-loop-number l = AreShifts (map (λ (pair : ℕ × ℕ). pair.0) l.pairs) l.number (l.shifts.items ++ l.last ∷ [])
