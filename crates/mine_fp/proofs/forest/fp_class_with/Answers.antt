use Rattle.std.proofs.Common.{◌≡◌, ◌<◌, ◌≤◌, ◌∷◌, [], false, ap, length, subst, sym, arith}
use Rattle.std.proofs.lemmas.Grind.{common_steps}
use Rattle.std.proofs.lemmas.Result.{IfOk-weaker}
use Rattle.basket_ranks.specs.Codes.{Coding}
use Rattle.basket_sets.specs.Frequent.{is_frequent}
use Rattle.mine_classes.specs.Mined.{MinesClass, class_size}
use Rattle.mine_classes.proofs.theory.Mined.{mining_none}
use Rattle.mine_fp.specs.PatternBase.{HaveSlots, supports_in}
use Rattle.mine_fp.specs.Trees.{class_trees}
use Rattle.mine_fp.proofs.ForestLemmas.{class_of_rank, entries, entry_support, rare, trees_made}
use Rattle.mine_fp.proofs.PatternLemmas.{slots_below}
use Rattle.mine_fp.proofs.TreesLemmas.{rare_trees, trees_few}
use Rattle.mine_fp.proofs.forest.fp_class_with.Goals as goal

pub index-requires : goal.index-requires
index-requires g c = grind (arith, common_steps, entries)

pub returns-then-support-all-clause-class : goal.returns-then-support-all-clause-class
returns-then-support-all-clause-class g c =
    let here = subst (λ (v : Coding). c.args.rank < length v.items) (sym c.forest.view_is) c.requires.rank in
    let not = rare c.forest.invariant c.args.rank (omega (arith, c.if-support-all.true, entry_support c.forest.invariant c.args.rank here c.index.ensures)) in
    mining_none (subst (λ (v : Coding). is_frequent v.baskets v.minimum (c.args.rank ∷ []) ≡ false) c.forest.view_is not) c.in_ok-none.ensures c.requires.going

pub returns-then-support-all-clause-trees : goal.returns-then-support-all-clause-trees
returns-then-support-all-clause-trees g c = grind (arith, common_steps, rare, entry_support, rare_trees)

pub below-requires-clause-long : goal.below-requires-clause-long
below-requires-clause-long g c = omega (arith, entries c.forest.invariant, c.forest.inside.all.ranks.ok.0)

pub list-requires-clause-class : goal.list-requires-clause-class
list-requires-clause-class g c =
    let here = subst (λ (v : Coding). c.args.rank < length v.items) (sym c.forest.view_is) c.requires.rank in (
      supports_in c.forest.inside.all.coded.now c.forest.inside.all.least,
      class_of_rank c.forest.invariant c.args.rank here c.index.ensures (omega (arith, c.if-support-all.false)) c.in_ok-below.ensures.none c.in_ok-below.ensures.below,
    )

pub list-requires-clause-lent : goal.list-requires-clause-lent
list-requires-clause-lent g c = λ inner e.
    let all = c.forest.inside.all in
    let same = ap (λ (v : Coding). length v.items) c.forest.view_is in
    let slots : HaveSlots c.args.scratch.now all = record { sums = omega (arith, c.requires.scratch.0, same, c.forest.invariant.count); numbers = omega (arith, c.requires.scratch.1, same, c.forest.invariant.count) } in
    slots_below (rw e at c.in_ok-below.ensures.below) (omega (arith, c.requires.rank, same, c.forest.invariant.count)) slots c.below.ensures.kept

pub returns-clause-trees : goal.returns-clause-trees
returns-clause-trees g c = grind (arith, common_steps, class_of_rank, trees_made, IfOk-weaker)

pub returns-clause-few : goal.returns-clause-few
returns-clause-few g c =
    let few = trees_few c.args.forest.now c.args.rank in
    IfOk-weaker c.list.result (λ mined. mined.1 ≡ class_trees c.args.forest.now c.args.rank) (λ mined. mined.1 ≤ class_size c.args.forest.now c.args.rank) (λ mined made. omega (arith, made, few)) (returns-clause-trees g c)

pub returns-clause-class : goal.returns-clause-class
returns-clause-class g c = subst (λ (v : Coding). MinesClass g.T.Tally.told_of g.T.Tally.limit_of g.T.Tally.is_over v c.args.rank c.args.tally.now c.list.new.tally c.list.result) c.forest.view_is c.list.ensures.class
