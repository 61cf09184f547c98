use Rattle.std.proofs.Common.{◌≡◌, ℕ, ◌∷◌, ◌++◌, [], append-nil, filter, map, take, sym, ap, subst, ◌∙◌, arith}
use Rattle.std.proofs.lemmas.Grind.{common_steps}
use Rattle.std.proofs.lemmas.List.{take_all}
use Rattle.basket_sets.specs.Counts.{item_supports}
use Rattle.basket_sets.specs.Frequent.{is_frequent}
use Rattle.basket_sets.specs.Itemset.{IsRising}
use Rattle.basket_sets.specs.Support.{items_of}
use Rattle.mine_supports.specs.Extensions.{AreGrouped, Group, has_items, sets_of}
use Rattle.mine_supports.proofs.theory.Extensions.{sets_filled}
use Rattle.mine_supports.proofs.theory.Frequent.{singles_rise}
use Rattle.mine_supports.proofs.theory.Grouped.{one_grouped}
use Rattle.mine_apriori.proofs.GroupLemmas.{filter_grouped}
use Rattle.mine_apriori.proofs.LevelsLemmas.{AreNext, are_next, first_asked, first_level, first_ranks, items_rise}
use Rattle.mine_apriori.proofs.first_level.frequent_ranks.Goals as goal
use Rattle.mine_apriori.proofs.first_level.frequent_ranks.Goals.{After-deref, After-found-2-1, In_ok-level}

all : (c : After-deref) → take c.loop-rank.rank-index c.deref-rank-items.result.now ≡ item_supports c.args.coded.now.baskets
all c = take_all c.loop-rank.rank-index c.deref-rank-items.result.now c.loop-rank-test.false ∙ c.deref-rank-items.ensures.value ∙ c.in_ok-count_items.ensures.counts ∙ ap item_supports c.baskets.ensures.baskets

ranks_are : (c : After-deref) → c.deref.result.now ≡ items_of c.args.coded.now.baskets
ranks_are c = c.deref.ensures.value ∙ c.loop-rank.invariant.ranks ∙ ap (map (λ (entry : ℕ × ℕ). entry.0)) (all c) ∙ first_ranks c.args.coded.now

pub with_items-requires-clause-items : goal.with_items-requires-clause-items
with_items-requires-clause-items c = subst IsRising (sym (ranks_are c)) (items_rise c.args.coded.now)

sets_are : (c : After-found-2-1) → c.in_ok-sets.sets ≡ filter has_items (record { prefix = []; items = c.deref.result.now } ∷ [])
sets_are c = c.in_ok-sets.ensures ∙ ap (λ l. l ++ filter has_items (record { prefix = []; items = c.deref.result.now } ∷ [])) c.new.ensures

listed : (c : After-found-2-1) → c.deref.result.now ≡ items_of c.args.coded.now.baskets → sets_of c.in_ok-sets.sets ≡ map (λ rank. rank ∷ []) (items_of c.args.coded.now.baskets)
listed c ranks = ap sets_of (sets_are c) ∙ sets_filled (record { prefix = []; items = c.deref.result.now } ∷ []) ∙ append-nil (map (λ rank. rank ∷ []) c.deref.result.now) ∙ ap (map (λ rank. rank ∷ [])) ranks

pub add_frequent-requires-clause-rising : goal.add_frequent-requires-clause-rising
add_frequent-requires-clause-rising c = grind (arith, common_steps, listed, ranks_are, singles_rise)

pub add_frequent-requires-clause-counts : goal.add_frequent-requires-clause-counts
add_frequent-requires-clause-counts c = grind (arith, common_steps, all, first_asked, listed, ranks_are)

-- the frequent ones are the first level
next : (c : In_ok-level) → c.in_ok-sets.sets ≡ filter has_items (record { prefix = []; items = c.deref.result.now } ∷ []) → sets_of c.in_ok-sets.sets ≡ map (λ rank. rank ∷ []) (items_of c.args.coded.now.baskets)
    → AreNext c.args.coded.now 0 c.add_frequent.new.found c.in_ok-level.level
next c are is =
    let coding = c.args.coded.now in
    let group : Group = record { prefix = []; items = c.deref.result.now } in
    are_next coding 0 c.in_ok-sets.sets c.in_ok-level.level c.in_ok-found.found c.add_frequent.new.found c.in_ok-found.ensures
    (subst AreGrouped (sym are) (filter_grouped has_items (group ∷ []) (one_grouped group)))
    (ap (filter (is_frequent coding.baskets coding.minimum)) is ∙ first_level coding) c.in_ok-level.ensures.level c.in_ok-level.ensures.found

pub returns-clause-found : goal.returns-clause-found
returns-clause-found c = let here = goal.at.returns-clause-found c in (next here.In_ok-level (sets_are here.After-found-2-1) (listed here.After-found-2-1 (ranks_are here.After-deref))).found_all

pub returns-clause-level : goal.returns-clause-level
returns-clause-level c = let here = goal.at.returns-clause-level c in (next here.In_ok-level (sets_are here.After-found-2-1) (listed here.After-found-2-1 (ranks_are here.After-deref))).level_all

pub returns-clause-grouped : goal.returns-clause-grouped
returns-clause-grouped c = let here = goal.at.returns-clause-grouped c in (next here.In_ok-level (sets_are here.After-found-2-1) (listed here.After-found-2-1 (ranks_are here.After-deref))).grouped
