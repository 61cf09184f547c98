use Rattle.std.proofs.Common.{take}
use Rattle.mine_supports.specs.TidWord.{AreKept}
use Rattle.mine_supports.proofs.tid_words.put_kept.Given as goal

abbrev pub invariant-loop-part : goal.invariant-loop-part
invariant-loop-part l = AreKept l.row (take l.part-index l.tids) l.kept.items
