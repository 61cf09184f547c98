use Rattle.std.proofs.Common.{◌≡◌, ◌&&◌, length, ltb, slice_index}
use Rattle.mine_rows.specs.Bits.{word_count, words_from}
use Rattle.mine_rows.specs.Planes.{has_bit}
use Rattle.mine_rows.proofs.planes.plane_of.Given as goal

abbrev pub invariant-loop-tid : goal.invariant-loop-tid
invariant-loop-tid l = l.words.items ≡ words_from (λ t. ltb t l.tid && has_bit l.bit (slice_index l.weights t)) 0 (word_count (length l.weights))
