-- What is used again from rank to rank.
use Rattle.std.specs.Prelude.{◌≡◌, ℕ}
use Rattle.mine_conditional.specs.declared.scratch.ClassScratch.{ClassScratch}

-- scratch memory with a sum and a local number for each of so many ranks
abbrev pub IsScratchOf : ℕ → ClassScratch → Type 0
IsScratchOf ranks scratch = (scratch.sums ≡ ranks) × (scratch.numbers ≡ ranks)
