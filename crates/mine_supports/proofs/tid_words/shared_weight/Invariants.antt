use Rattle.std.proofs.Common.{◌≡◌, get_or, take}
use Rattle.mine_supports.specs.TidWord.{shared_weight}
use Rattle.mine_supports.proofs.tid_words.shared_weight.Given as goal

abbrev pub invariant-loop-part : goal.invariant-loop-part
invariant-loop-part l = l.weight ≡ shared_weight (λ word. get_or l.row word 0) (take l.part-index l.tids)
