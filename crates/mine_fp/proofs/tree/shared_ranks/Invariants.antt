use Rattle.std.proofs.Common.{◌≡◌, ◌+◌, ◌-◌, drop, length, nat_eq}
use Rattle.std.specs.List.{common_prefix_len}
use Rattle.mine_fp.proofs.tree.shared_ranks.Given as goal

abbrev pub invariant-loop-shared : goal.invariant-loop-shared
invariant-loop-shared l = common_prefix_len nat_eq (drop l.start l.ranks) l.path ≡ l.shared + common_prefix_len nat_eq (drop l.shared l.rest) (drop l.shared l.path)

abbrev pub decreases-loop-shared : goal.decreases-loop-shared
decreases-loop-shared l = length l.rest - l.shared
