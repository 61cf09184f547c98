use Rattle.std.proofs.Common.{◌≡◌, length, take, ◌∙◌, arith}
use Rattle.std.proofs.lemmas.Grind.{common_steps}
use Rattle.std.proofs.lemmas.List.{get_or_read}
use Rattle.basket_sets.specs.Support.{support_of}
use Rattle.mine_supports.specs.Extensions.{sets_of}
use Rattle.mine_supports.proofs.theory.Extensions.{groups_long}
use Rattle.mine_supports.proofs.theory.Parts.{rising_in_range}
use Rattle.basket_mining.proofs.JoinerLemmas.{part_counts, part_within}
use Rattle.basket_mining.proofs.joiner.CountedPartWorkTuple2ExtensionsCountedSets.value.Goals as goal
use Rattle.basket_mining.proofs.joiner.CountedPartWorkTuple2ExtensionsCountedSets.value.Goals.{After-count_in-count}

first_is : (c : After-count_in-count) → c.index-first.result.now ≡ length (sets_of (take c.new-range.result.start c.args.self.now.sets.now))
first_is c = grind (arith, common_steps, groups_long, get_or_read)

pub counts_from-requires : goal.counts_from-requires
counts_from-requires c =
    let work = c.args.self.now in
    part_within (support_of work.coded.now.baskets) work.sets.now work.counts.now c.new-range.result.start c.new-range.result.end c.index-first.result.now c.count_in-count.result work.counted
    (first_is (goal.at.counts_from-requires c).After-count_in-count) c.count_in-count.ensures

pub add_frequent-requires-clause-rising : goal.add_frequent-requires-clause-rising
add_frequent-requires-clause-rising c = rising_in_range c.args.self.now.sets.now c.new-range.result.start c.new-range.result.end c.args.self.now.rising

pub add_frequent-requires-clause-counts : goal.add_frequent-requires-clause-counts
add_frequent-requires-clause-counts c =
    let work = c.args.self.now in
    c.counts_from.ensures
    ∙ part_counts (support_of work.coded.now.baskets) work.sets.now work.counts.now c.new-range.result.start c.new-range.result.end c.index-first.result.now c.count_in-count.result work.counted
    (first_is (goal.at.add_frequent-requires-clause-counts c).After-count_in-count) c.count_in-count.ensures
