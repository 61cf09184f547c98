use Rattle.std.proofs.Common.{◌≡◌, ℕ, List, ◌+◌, ◌-◌, ◌≤◌, ◌<◌, ◌∷◌, ◌++◌, [], filter, get_or, length, map, take, subst, sym, ap, ◌∙◌, arith}
use Rattle.std.proofs.lemmas.Grind.{common_steps}
use Rattle.std.specs.List.{All}
use Rattle.std.specs.Prelude.{slice_range}
use Rattle.std.proofs.lemmas.List.{take_all}
use Rattle.basket_sets.specs.Frequent.{is_frequent}
use Rattle.basket_sets.specs.Itemset.{IsRising}
use Rattle.basket_sets.specs.Support.{support_of}
use Rattle.mine_supports.specs.Extensions.{Group, extend, sets_of}
use Rattle.mine_apriori.specs.Levels.{decoded_sets}
use Rattle.mine_supports.proofs.theory.Extensions.{items_read, no_group, prefix_read, range_at, range_long}
use Rattle.mine_supports.proofs.theory.Frequent.{counts_first, counts_rest, counts_within, found_next, group_rises, kept_next}
use Rattle.mine_apriori.proofs.frequent.add_frequent.Goals as goal
use Rattle.mine_apriori.proofs.frequent.add_frequent.Goals.{After-items-items}

-- the index of the prefix among those of the range
abbrev at : After-items-items → ℕ
at c = c.loop-number.number - c.args.range.start

abbrev groups : After-items-items → List Group
groups c = slice_range c.args.sets.now c.args.range.start c.args.range.end

inside : (c : After-items-items) → c.loop-number.number < length c.args.sets.now
inside c = omega (arith, c.loop-number-test.true, c.requires.within)

below : (c : After-items-items) → at c < length (groups c)
below c = omega (arith, c.loop-number-test.true, range_long c.args.sets.now c.args.range.start c.args.range.end c.requires.within)

same : (c : After-items-items) → get_or (groups c) (at c) no_group ≡ get_or c.args.sets.now c.loop-number.number no_group
same c = range_at c.args.sets.now c.args.range.start c.args.range.end c.loop-number.number no_group (omega arith) c.loop-number-test.true

list_is : (c : After-items-items) → c.items-items.result.now ≡ (get_or (groups c) (at c) no_group).items
list_is c = grind (arith, common_steps, items_read, inside, same)

prefix_is : (c : After-items-items) → c.index-prefixes-number.result ≡ (get_or (groups c) (at c) no_group).prefix
prefix_is c = grind (arith, common_steps, prefix_read, inside, same)

pub split_at-requires : goal.split_at-requires
split_at-requires c =
    omega (arith, ap length (list_is c), counts_within (groups c) (at c) no_group (below c) (support_of c.args.coded.now.baskets) c.loop-number.rest.now c.loop-number.invariant.rest)

pub add_extensions-requires-clause-rising : goal.add_extensions-requires-clause-rising
add_extensions-requires-clause-rising c =
    let before = (goal.at.add_extensions-requires-clause-rising c).After-items-items in
    subst (All IsRising) (sym (λ i. extend (prefix_is before i) (list_is before i))) (group_rises (groups before) (at before) no_group (below before) c.requires.rising)

pub add_extensions-requires-clause-counts : goal.add_extensions-requires-clause-counts
add_extensions-requires-clause-counts c =
    let before = (goal.at.add_extensions-requires-clause-counts c).After-items-items in
    let support = support_of c.args.coded.now.baskets in
    c.split_at.ensures.front ∙ ap (λ n. take n c.loop-number.rest.now) (ap length (list_is before))
    ∙ counts_first (groups before) (at before) no_group (below before) support c.loop-number.rest.now c.loop-number.invariant.rest
    ∙ ap (map support) (sym (λ i. extend (prefix_is before i) (list_is before i)))

pub loop-number-preserved : goal.loop-number-preserved
loop-number-preserved c =
    let before = (goal.at.loop-number-preserved c).After-items-items in
    let coding = c.args.coded.now in
    let all = groups before in
    let number = at before in
    let passes = is_frequent coding.baskets coding.minimum in
    let prefix = prefix_is before in
    let items = list_is before in
    let are = c.in_ok-frequent.ensures.items ∙ (λ i. filter (λ item. passes (prefix i ++ item ∷ [])) (items i)) in
    let next : number + 1 ≡ c.loop-number.number + 1 - c.args.range.start = omega arith in
    grind (arith, common_steps, list_is, counts_rest, no_group, below, kept_next, found_next)

taken : (groups : List Group) (start end number : ℕ) → end ≤ length groups → end ≤ number → take (number - start) (slice_range groups start end) ≡ slice_range groups start end
taken groups start end number within past = take_all (number - start) (slice_range groups start end) (omega (arith, past, range_long groups start end within))

pub returns-clause-level : goal.returns-clause-level
returns-clause-level c = grind (arith, common_steps, taken)

pub returns-clause-found : goal.returns-clause-found
returns-clause-found c =
    let coding = c.args.coded.now in
    c.loop-number.invariant.found ∙ ap (λ g. c.args.found.now ++ decoded_sets coding (filter (is_frequent coding.baskets coding.minimum) (sets_of g)))
    (taken c.args.sets.now c.args.range.start c.args.range.end c.loop-number.number c.requires.within c.loop-number-test.false)
