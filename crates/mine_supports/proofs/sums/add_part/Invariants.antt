use Rattle.std.proofs.Common.{◌≡◌, ℕ, ◌+◌, ◌<◌, ◌≤◌, List, get_or, length, map}
use Rattle.mine_supports.specs.Sums.{all_tids}
use Rattle.mine_supports.specs.TidWord.{IsRowOf, part_weight}
use Rattle.mine_supports.proofs.TidLemmas.{tids_at, words}
use Rattle.mine_supports.proofs.sums.add_part.Given as goal

abbrev pub invariant-loop-rest : goal.invariant-loop-rest
invariant-loop-rest l = record {
  added : (item : ℕ) (row : List ℕ) → item < length l.initial.sums → IsRowOf (map (λ basket. basket.now) l.baskets) item row
      → get_or l.sums item 0 + part_weight (words row) (tids_at l.part.word l.rest l.part.weight) ≡ get_or l.initial.sums item 0 + part_weight (words row) l.part;
  light : (item : ℕ) → item < length l.initial.sums
      → get_or l.sums item 0 + part_weight all_tids (tids_at l.part.word l.rest l.part.weight) ≤ get_or l.initial.sums item 0 + part_weight all_tids l.part;
}

abbrev pub decreases-loop-rest : goal.decreases-loop-rest
decreases-loop-rest l = l.rest
