use Rattle.std.proofs.Common.{◌≡◌, length, arith}
use Rattle.std.proofs.lemmas.Grind.{common_steps}
use Rattle.std.proofs.lemmas.Bool.{cases_lt}
use Rattle.std.proofs.lemmas.List.{get_or_append_left, length_push}
use Rattle.std.proofs.Math.Seq.{get_or-append_seam}
use Rattle.basket_ranks.specs.Shards.{shard_of}
use Rattle.mine_supports.specs.Extensions.{sets_of}
use Rattle.mine_supports.proofs.theory.Extensions.{count_split, groups_long}
use Rattle.basket_mining.proofs.JoinerLemmas.{before_more, range_is}
use Rattle.basket_mining.proofs.joiner.sets_before.Goals as goal
use Rattle.basket_mining.proofs.joiner.sets_before.Goals.{After-count_in-count}

counted : (c : After-count_in-count) → c.count_in-count.result ≡ length (sets_of (shard_of c.loop-part.part c.args.parts c.args.sets.now))
counted c = grind (arith, common_steps, range_is, groups_long)

pub overflow_add-count : goal.overflow_add-count
overflow_add-count c = grind (arith, common_steps, before_more, count_split, counted)

pub loop-part-preserved : goal.loop-part-preserved
loop-part-preserved c = grind (arith, common_steps, length_push, counted, before_more, cases_lt, get_or_append_left, get_or-append_seam)
