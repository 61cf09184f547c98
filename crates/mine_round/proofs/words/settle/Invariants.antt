use Rattle.std.proofs.Common.{◌≡◌, ℕ, ◌+◌, ◌<◌, slice_index}
use Rattle.mine_round.proofs.words.settle.Given as goal

abbrev pub invariant-loop-counter : goal.invariant-loop-counter
invariant-loop-counter l = (c : ℕ) → c < l.counter → slice_index l.totals c ≡ slice_index l.closed.words.items (c + 1)
