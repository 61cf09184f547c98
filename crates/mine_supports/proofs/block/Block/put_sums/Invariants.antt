use Rattle.std.proofs.Common.{◌≡◌, ◌≤◌, ◌<◌, ℕ, List, get_or, length, map, take}
use Rattle.mine_supports.specs.Sums.{all_tids}
use Rattle.mine_supports.specs.TidWord.{IsRowOf, shared_weight}
use Rattle.mine_supports.proofs.TidLemmas.{words}
use Rattle.mine_supports.proofs.block.Block.put_sums.Given as goal

abbrev pub invariant-loop-part : goal.invariant-loop-part
invariant-loop-part l = record {
  added : (item : ℕ) (row : List ℕ) → item < length l.sums → IsRowOf (map (λ basket. basket.now) l.self.by_tid.items) item row
      → get_or l.sums item 0 ≡ shared_weight (words row) (take l.part-index l.tids);
  light : (item : ℕ) → item < length l.sums → get_or l.sums item 0 ≤ shared_weight all_tids (take l.part-index l.tids);
}
