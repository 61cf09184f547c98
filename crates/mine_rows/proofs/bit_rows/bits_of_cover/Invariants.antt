use Rattle.std.proofs.Common.{◌≡◌, take}
use Rattle.mine_rows.specs.Bits.{words_of}
use Rattle.mine_rows.proofs.bit_rows.bits_of_cover.Given as goal

abbrev pub invariant-loop-tid : goal.invariant-loop-tid
invariant-loop-tid l = l.words.items ≡ words_of l.tids (take l.tid-index l.cover)
