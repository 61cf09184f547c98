use Rattle.std.proofs.Common.{◌≡◌, ◌+◌, ◌<◌, length, ap, arith}
use Rattle.std.specs.Prelude.{slice_range}
use Rattle.mine_supports.specs.Extensions.{sets_of}
use Rattle.mine_supports.proofs.theory.Extensions.{count_more, count_within, items_read, lists_are, lists_long, no_group}
use Rattle.mine_supports.proofs.extensions.Extensions.count_in.Goals as goal
use Rattle.mine_supports.proofs.extensions.Extensions.count_in.Goals.{After-len-count}

pub index-requires : goal.index-requires
index-requires c = omega (arith, c.loop-index-test.true, c.requires, ap length (lists_are c.self.inside.prefixes.items c.self.inside.lists.items c.args.self.now c.self.invariant.0 c.self.view_is), lists_long c.args.self.now)

-- the sets with those of the prefix
more : (c : After-len-count) → c.loop-index.count + c.len-count.result ≡ length (sets_of (slice_range c.args.self.now c.args.range.start (c.loop-index.index + 1)))
more c =
    let groups = c.args.self.now in
    let index = c.loop-index.index in
    let below : index < length groups = omega (arith, c.loop-index-test.true, c.requires) in
    let items = items_read groups c.self.inside.lists.items index c.index.result.now (lists_are c.self.inside.prefixes.items c.self.inside.lists.items groups c.self.invariant.0 c.self.view_is) below c.index.ensures in
    omega (arith, c.loop-index.invariant, c.len-count.ensures, ap length items, count_more groups c.args.range.start index no_group (omega arith) below)

pub overflow_add-count : goal.overflow_add-count
overflow_add-count c =
    let groups = c.args.self.now in
    let all = count_within groups c.args.range.start (c.loop-index.index + 1) in
    let sets = ap (λ g. length (sets_of g)) c.self.view_is in
    record { fits = omega (arith, more (goal.at.overflow_add-count c).After-len-count, all, sets, c.self.invariant.1) }

pub loop-index-preserved : goal.loop-index-preserved
loop-index-preserved c = more (goal.at.loop-index-preserved c).After-len-count
