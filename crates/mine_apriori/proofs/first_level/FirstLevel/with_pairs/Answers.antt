use Rattle.std.proofs.Common.{◌≡◌, filter, map, sym, ap, subst, ◌∙◌, arith}
use Rattle.std.proofs.lemmas.Grind.{common_steps}
use Rattle.std.specs.List.{All}
use Rattle.basket_sets.specs.Frequent.{is_frequent}
use Rattle.basket_sets.specs.Itemset.{IsRising}
use Rattle.basket_sets.specs.Order.{IsInReportOrder}
use Rattle.mine_supports.specs.Extensions.{sets_of}
use Rattle.mine_apriori.specs.Levels.{level_of}
use Rattle.mine_supports.specs.Sizes.{AreOfSize}
use Rattle.mine_apriori.specs.declared.pairs.Pair.{Pair}
use Rattle.mine_apriori.proofs.LevelsLemmas.{AreNext, are_next, found_long, level_again, level_in_order, level_rises, level_sized}
use Rattle.mine_apriori.proofs.WorkLemmas.{pair_count}
use Rattle.mine_apriori.proofs.first_level.FirstLevel.with_pairs.Given.{Over}
use Rattle.mine_apriori.proofs.first_level.FirstLevel.with_pairs.Goals as goal
use Rattle.mine_apriori.proofs.first_level.FirstLevel.with_pairs.Goals.{In_ok-level, In_ok-sets}

pub pair_sets-requires : goal.pair_sets-requires
pair_sets-requires g c =
    let ranks = ap (map (λ (pair : Pair). pair.ranks)) c.deref.ensures.value ∙ c.in_ok-pairs.ensures.ranks in
    record {
      two = subst (AreOfSize 2) (sym ranks) (level_sized c.self.inside.coded.now 2);
      in_order = subst IsInReportOrder (sym ranks) (level_in_order c.self.inside.coded.now 2);
    }

-- the sets are the second level
level_is : (g : Over) (c : In_ok-sets g) → sets_of c.in_ok-sets.sets ≡ level_of c.self.inside.coded.now 2
level_is g c = c.in_ok-sets.ensures.sets ∙ ap (map (λ (pair : Pair). pair.ranks)) c.deref.ensures.value ∙ c.in_ok-pairs.ensures.ranks

pub add_frequent-requires-clause-rising : goal.add_frequent-requires-clause-rising
add_frequent-requires-clause-rising g c = subst (All IsRising) (sym (level_is g (goal.at.add_frequent-requires-clause-rising g c).In_ok-sets)) (level_rises c.self.inside.coded.now 2)

-- they are found with those of one rank
next : (g : Over) (c : In_ok-level g) → sets_of c.in_ok-sets.sets ≡ level_of c.self.inside.coded.now 2 → AreNext c.self.inside.coded.now 1 c.add_frequent.new.found c.in_ok-level.level
next g c is =
    let coding = c.self.inside.coded.now in
    are_next coding 1 c.in_ok-sets.sets c.in_ok-level.level c.self.inside.found c.add_frequent.new.found c.self.invariant.1 c.in_ok-sets.ensures.grouped
    (ap (filter (is_frequent coding.baskets coding.minimum)) is ∙ level_again coding 2) c.in_ok-level.ensures.level c.in_ok-level.ensures.found

pub ask-requires-clause-found : goal.ask-requires-clause-found
ask-requires-clause-found g c = let here = goal.at.ask-requires-clause-found g c in (next g here.In_ok-level (level_is g here.In_ok-sets)).found_all

pub ask-requires-clause-level : goal.ask-requires-clause-level
ask-requires-clause-level g c = let here = goal.at.ask-requires-clause-level g c in (next g here.In_ok-level (level_is g here.In_ok-sets)).level_all

pub ask-requires-clause-grouped : goal.ask-requires-clause-grouped
ask-requires-clause-grouped g c = let here = goal.at.ask-requires-clause-grouped g c in (next g here.In_ok-level (level_is g here.In_ok-sets)).grouped

pub ask-requires-clause-counted : goal.ask-requires-clause-counted
ask-requires-clause-counted g c = grind (arith, common_steps, found_long, pair_count)
