use Rattle.std.proofs.Common.{◌≡◌, ◌<◌, ◌≤◌, ◌+◌, ◌-◌, ◌++◌, filter, get_or, length, suc, take, subst, sym, ap, ◌∙◌, arith}
use Rattle.std.proofs.lemmas.Grind.{common_steps}
use Rattle.std.specs.Prelude.{slice_range}
use Rattle.std.proofs.lemmas.List.{take_all}
use Rattle.basket_sets.specs.Itemset.{IsRising}
use Rattle.mine_supports.specs.Extensions.{Group, has_items, sets_of}
use Rattle.mine_apriori.specs.Join.{joined_group, joined_groups}
use Rattle.mine_supports.proofs.theory.Extensions.{items_read, no_group, prefix_read, range_at, range_long}
use Rattle.mine_apriori.proofs.JoinStepLemmas.{group_more, group_parts}
use Rattle.mine_apriori.proofs.join.candidates_in.Goals as goal
use Rattle.mine_apriori.proofs.join.candidates_in.Goals.{After-deref_mut}

below : (c : After-deref_mut) → c.loop-index.index < length c.args.level.now
below c = omega (arith, c.loop-index-test.true, c.requires.within)

prefix_is : (c : After-deref_mut) → c.items-prefix.result.now ≡ (get_or c.args.level.now c.loop-index.index no_group).prefix
prefix_is c = c.items-prefix.ensures.items ∙ prefix_read c.args.level.now c.prefixes-in-loop-index.result.now c.loop-index.index c.index-prefixes-index.result c.prefixes-in-loop-index.ensures (below c) c.index-prefixes-index.is

list_is : (c : After-deref_mut) → c.index-lists-index.result ≡ (get_or c.args.level.now c.loop-index.index no_group).items
list_is c = items_read c.args.level.now c.lists.result.now c.loop-index.index c.index-lists-index.result c.lists.ensures (below c) c.index-lists-index.is

pub join-requires-clause-parts : goal.join-requires-clause-parts
join-requires-clause-parts c =
    let groups = c.args.level.now in
    let index = c.loop-index.index in
    let group = get_or groups index no_group in
    let up = subst IsRising (list_is c) c.items-items.ensures.rising in
    grind (arith, common_steps, prefix_is, list_is, group_parts, no_group, below)

pub loop-index-preserved : goal.loop-index-preserved
loop-index-preserved c =
    let before = (goal.at.loop-index-preserved c).After-deref_mut in
    let groups = c.args.level.now in
    let start = c.args.range.start in
    let end = c.args.range.end in
    let index = c.loop-index.index in
    let joined = slice_range groups start end in
    let from : start ≤ index = omega arith in
    let same = sym (range_at groups start end index no_group from c.loop-index-test.true) in
    let prefix = prefix_is before ∙ ap (λ (group : Group). group.prefix) same in
    let items = c.items-items.ensures.items ∙ list_is before ∙ ap (λ (group : Group). group.items) same in
    let next : (index - start) + 1 ≡ index + 1 - start = omega (arith, from) in
    group_more (sets_of groups) joined c.loop-index.found c.in_ok-found.found (index - start) no_group
    (omega (arith, from, c.loop-index-test.true, range_long groups start end c.requires.within)) c.loop-index.invariant
    (c.in_ok-found.ensures ∙ (λ i. c.loop-index.found ++ filter has_items (joined_group (suc (length (prefix i))) (sets_of groups) (prefix i) (items i))))
    ∙ ap (λ n. joined_groups (sets_of groups) (take n joined)) next

pub returns : goal.returns
returns c =
    let groups = c.args.level.now in
    let joined = slice_range groups c.args.range.start c.args.range.end in
    c.loop-index.invariant ∙ ap (joined_groups (sets_of groups)) (take_all (c.loop-index.index - c.args.range.start) joined
    (omega (arith, c.loop-index-test.false, range_long groups c.args.range.start c.args.range.end c.requires.within)))
