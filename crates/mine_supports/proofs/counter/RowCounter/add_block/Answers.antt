use Rattle.std.proofs.Common.{◌≡◌, ◌<◌, ◌+◌, ◌-◌, [], true, get_or, length, take, refl, subst, sym, ap, ◌∙◌, arith}
use Rattle.std.proofs.lemmas.Grind.{common_steps}
use Rattle.std.proofs.lemmas.List.{get_or_default, take_all}
use Rattle.std.proofs.lemmas.List.Sums.{sum_by-take-le}
use Rattle.basket_sets.specs.Itemset.{contains}
use Rattle.basket_sets.specs.Support.{support_of}
use Rattle.mine_supports.specs.BlockCounts.{numbered}
use Rattle.mine_supports.specs.Needed.{IsAtLeast}
use Rattle.mine_supports.specs.Prefixes.{ArePrefixes}
use Rattle.mine_supports.specs.Counter.{AreAdded, IsShared}
use Rattle.mine_supports.specs.Extensions.{groups_of, sets_of}
use Rattle.mine_supports.proofs.PrefixLemmas.{prefixes_shared}
use Rattle.mine_supports.proofs.CounterLemmas.{all_added, group_added, next_start, next_within, none_yet}
use Rattle.mine_supports.proofs.theory.Extensions.{groups_back, groups_long, items_read, lists_long, no_group, prefix_read}
use Rattle.mine_supports.proofs.NeededLemmas.{needed_support, needed_total, sets_used}
use Rattle.mine_supports.proofs.TidLemmas.{list_used}
use Rattle.mine_supports.proofs.counter.RowCounter.add_block.Goals as goal
use Rattle.mine_supports.proofs.counter.RowCounter.add_block.Goals.{After-add-arg-1}

pub of-requires-clause-light : goal.of-requires-clause-light
of-requires-clause-light c = grind (arith, common_steps)

pub loop-number-init : goal.loop-number-init
loop-number-init c =
    let first = get_or c.prefixes-prefixes.result.now 0 [] in
    record {
      starts = refl;
      added = none_yet (numbered c.in_ok-block.block) 0 c.args.counts.now;
      prefixes = c.in_ok-shared.ensures first;
    }

below : (c : After-add-arg-1) → c.loop-number.number < length c.self.inside.sets.now
below c = omega (arith, c.loop-number-test.true, ap length c.lists-items-items.ensures, lists_long c.self.inside.sets.now)

starts : (c : After-add-arg-1) → c.loop-number.start ≡ length (sets_of (take c.loop-number.number c.self.inside.sets.now))
starts c = grind (arith, common_steps, groups_back)

list_is : (c : After-add-arg-1) → c.items-item.result ≡ (get_or c.self.inside.sets.now c.loop-number.number no_group).items
list_is c = items_read c.self.inside.sets.now c.lists-items-items.result.now c.loop-number.number c.items-item.result c.lists-items-items.ensures (below c) c.items-item.is

prefix_is : (c : After-add-arg-1) → c.index-prefixes-number.result ≡ (get_or c.self.inside.sets.now c.loop-number.number no_group).prefix
prefix_is c = prefix_read c.self.inside.sets.now c.prefixes-prefixes.result.now c.loop-number.number c.index-prefixes-number.result c.prefixes-prefixes.ensures (below c) c.index-prefixes-number.is

pub add-requires-clause-used : goal.add-requires-clause-used
add-requires-clause-used c =
    list_used c.self.inside.sets.now (λ group. group.prefix) c.self.inside.used c.in_ok-block.block.used.now c.loop-number.number c.items-in-loop-number-2.result.now
    c.self.invariant.0 c.in_ok-block.ensures.used.0 (below c) (c.items-in-loop-number-2.ensures.items ∙ prefix_is c)

pub add-requires-clause-items_used : goal.add-requires-clause-items_used
add-requires-clause-items_used c =
    list_used c.self.inside.sets.now (λ group. group.items) c.self.inside.used c.in_ok-block.block.used.now c.loop-number.number c.items-in-loop-number-3.result.now
    c.self.invariant.1 c.in_ok-block.ensures.used.0 (below c) (c.items-in-loop-number-3.ensures.items ∙ list_is c)

pub add-requires-clause-prefixes : goal.add-requires-clause-prefixes
add-requires-clause-prefixes c =
    let prefixes = c.prefixes-prefixes.result.now in
    let number = c.loop-number.number in
    let count = c.shared_items.result in
    let old = c.loop-number.shared.lists.items in
    let within : number - 1 < length prefixes = omega (arith, below c, ap length c.prefixes-prefixes.ensures, groups_long c.self.inside.sets.now) in
    let before = c.items.ensures.items ∙ c.index-prefixes-saturating_sub.is ∙ ap (λ n. get_or prefixes n c.index-prefixes-saturating_sub.result) c.saturating_sub.ensures
    ∙ get_or_default prefixes (number - 1) c.index-prefixes-saturating_sub.result [] within in
    let prefix = c.items-in-loop-number.ensures.items ∙ sym c.items-in-loop-number-2.ensures.items in
    let shared = subst (λ l. IsShared l c.items-in-loop-number-2.result.now count) before (subst (λ l. IsShared c.items.result.now l count) prefix c.shared_items.ensures) in
    subst (ArePrefixes (numbered c.in_ok-block.block) c.items-in-loop-number-2.result.now) (sym c.truncate.ensures)
    (prefixes_shared (numbered c.in_ok-block.block) (get_or prefixes (number - 1) []) c.items-in-loop-number-2.result.now count old shared c.loop-number.invariant.prefixes)

pub add-requires-clause-within : goal.add-requires-clause-within
add-requires-clause-within c = let within = next_within c.self.inside.sets.now c.loop-number.number c.loop-number.start no_group (below c) (starts c) in grind (arith, common_steps)

pub add-requires-clause-light : goal.add-requires-clause-light
add-requires-clause-light c = λ k inside. grind (arith, common_steps, next_within, no_group, below, starts, list_is, needed_total, sum_by-take-le)

pub overflow_add-start : goal.overflow_add-start
overflow_add-start c =
    let before = (goal.at.overflow_add-start c).After-add-arg-1 in
    let within = next_within c.self.inside.sets.now c.loop-number.number c.loop-number.start no_group (below before) (starts before) in
    record { fits = omega (arith, within, c.len-start.ensures, ap length (list_is before), c.requires.long, ap length c.self.view_is, c.loop-number.auto.counts) }

pub loop-number-preserved : goal.loop-number-preserved
loop-number-preserved c =
    let before = (goal.at.loop-number-preserved c).After-add-arg-1 in
    let groups = c.self.inside.sets.now in
    let number = c.loop-number.number in
    let start = c.loop-number.start in
    let baskets = numbered c.in_ok-block.block in
    let old = c.args.counts.now in
    let counts = c.loop-number.counts in
    let new = c.add.new.counts in
    let here = below before in
    let prefix = c.items-in-loop-number-2.ensures.items ∙ prefix_is before in
    let items = c.items-in-loop-number-3.ensures.items ∙ list_is before in
    let long = ap (λ n. start + n) (c.len-start.ensures ∙ ap length (list_is before)) in
    let same = (λ i. groups_of (c.prefixes-prefixes.ensures i) (c.lists-items-items.ensures i)) ∙ groups_back groups in
    grind (arith, common_steps, starts, next_start, no_group, group_added, get_or_default, groups_long)

pub returns-clause-added : goal.returns-clause-added
returns-clause-added c k inside within =
    let groups = c.self.inside.sets.now in
    let number = c.loop-number.number in
    let block = c.in_ok-block.block in
    let same = (λ i. groups_of (c.prefixes-prefixes.ensures i) (c.lists-items-items.ensures i)) ∙ groups_back groups in
    let end = take_all number groups (omega (arith, c.loop-number-test.false, ap length c.lists-items-items.ensures, lists_long groups)) in
    let all = ap (λ l. sets_of (take number l)) same ∙ ap sets_of end in
    let added = all_added (sets_of groups) (numbered block) c.args.counts.now c.loop-number.counts (subst (λ s. AreAdded s (numbered block) 0 c.args.counts.now c.loop-number.counts) all c.loop-number.invariant.added) in
    let here : k < length (sets_of groups) = omega (arith, inside, ap length c.self.view_is) in
    let used = c.in_ok-block.ensures.used in
    let uses = subst (λ u. contains u (get_or (sets_of groups) k []) ≡ true) (sym used.0) (sets_used groups c.self.inside.used c.self.invariant.0 c.self.invariant.1 k [] here) in
    let is = subst (λ n. IsAtLeast n (get_or (sets_of groups) k [])) (sym used.1) (c.self.invariant.2 k [] here) in
    added k here within
    ∙ ap (λ n. get_or c.args.counts.now k 0 + n)
    (needed_support block.used.now block.least (get_or (sets_of groups) k []) uses is block.baskets.now ∙ (λ i. support_of (c.in_ok-block.ensures.baskets i) (get_or (c.self.view_is i) k [])))
