use Rattle.std.proofs.Common.{◌≡◌, ◌++◌, ℕ, Bool, length, map, refl, rules, ap, ◌∙◌, arith}
use Rattle.std.proofs.lemmas.Grind.{common_steps}
use Rattle.std.specs.Cmp.Lexicographic.{nat_list_cmp_total, slice_cmp}
use Rattle.std.specs.Ordering.{is_lt, nat_cmp}
use Rattle.std.proofs.lemmas.List.{take_all}
use Rattle.std.proofs.lemmas.List.Sorted.{answers_always, ranks_by}
use Rattle.std.specs.declared.vec.Vec.{Vec}
use Rattle.std.specs.declared.alloc.Global.{Global}
use Rattle.basket_sets.specs.Support.{support_of}
use Rattle.basket_sets.proofs.theory.Sorting.{sorted_images}
use Rattle.mine_apriori.specs.Levels.{level_of}
use Rattle.mine_apriori.specs.declared.pairs.Pair.{Pair}
use Rattle.mine_apriori.proofs.PairLemmas.{pair_of, pair_with, pairs_here, pairs_long, sets_below, sets_more, sorted_counts, sorted_ranks}
use Rattle.mine_apriori.proofs.pairs.sorted_pairs.Goals as goal
use Rattle.mine_apriori.proofs.pairs.sorted_pairs.Goals.{After-sort_unstable_by}

pub loop-rank-preserved : goal.loop-rank-preserved
loop-rank-preserved c =
    let coding = c.args.coded.now in
    let rank = c.loop-rank.rank in
    let taken = take_all c.loop-lesser.lesser-index c.deref-lesser-items.result.now c.loop-lesser-test.false ∙ c.deref-lesser-items.ensures.value
    ∙ ap (λ (v : Vec (ℕ × ℕ) Global). v.items) c.index-lists-rank.is ∙ pairs_here coding c.args.lists.now c.requires.pairs rank c.index-lists-rank.result c.loop-rank-test.true in
    c.loop-lesser.invariant ∙ (λ k. c.loop-rank.invariant k ++ map (pair_with rank) (taken k)) ∙ sets_more coding rank

-- the pairs of all ranks
all_pairs : (c : After-sort_unstable_by) → c.loop-rank.pairs.items ≡ map (pair_of c.args.coded.now.baskets) (sets_below c.args.coded.now (length c.args.coded.now.items))
all_pairs c = grind (arith, common_steps, pairs_long, pair_of, sets_below)

abbrev before : Pair → Pair → Bool
before a b = is_lt (slice_cmp nat_cmp a.ranks b.ranks)

in_order : (c : After-sort_unstable_by) → map (λ (pair : Pair). pair.ranks) c.sort_unstable_by.new.self.items ≡ level_of c.args.coded.now 2
in_order c =
    let sorted = c.sort_unstable_by.new.self.items in
    sorted_ranks c.args.coded.now c.requires.coding c.loop-rank.pairs.items sorted (all_pairs c) c.sort_unstable_by.ensures.permutation
    (sorted_images (λ (a b : Pair). slice_cmp nat_cmp a.ranks b.ranks) (slice_cmp nat_cmp) (λ (pair : Pair). pair.ranks) (λ a b. refl) sorted
    (c.sort_unstable_by.ensures.sorted before (ranks_by nat_list_cmp_total (λ (pair : Pair). pair.ranks)) (answers_always _ _ _ (λ f a r g h. search rules))))

pub returns-clause-ranks : goal.returns-clause-ranks
returns-clause-ranks c = in_order (goal.at.returns-clause-ranks c).After-sort_unstable_by

pub returns-clause-counts : goal.returns-clause-counts
returns-clause-counts c =
    let here = (goal.at.returns-clause-counts c).After-sort_unstable_by in
    sorted_counts c.args.coded.now c.loop-rank.pairs.items c.sort_unstable_by.new.self.items _ (all_pairs here) c.sort_unstable_by.ensures.permutation
    ∙ ap (map (support_of c.args.coded.now.baskets)) (in_order here)
