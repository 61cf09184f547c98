use Rattle.std.proofs.Common.{◌∙◌, ap, length}
use Rattle.std.specs.List.{range_with_len, sum_by}
use Rattle.mine_classes.proofs.theory.Classes.{classes_add_up}
use Rattle.mine_fp.specs.Trees.{class_trees, has_tree, trees_of}
use Rattle.basket_mining.proofs.mining.by_fp_growth.Goals as goal

pub returns-clause-work : goal.returns-clause-work
returns-clause-work g c database minimum made =
    let coding = c.args.coded in
    let items = c.in_ok-runs.ensures.items in
    let is = c.in_ok-forest.ensures ∙ items in
    let work = c.in_ok-frequent.ensures.work tt ∙ (λ i. sum_by (class_trees (is i)) (range_with_len 0 (length (items i).items))) in
    let count = work ∙ classes_add_up coding (λ found. has_tree coding.baskets coding.minimum found.set) c.baskets-coding.ensures.coding ∙ ap trees_of made in
    c.of_trees.ensures ∙ (λ i. record { candidates = 0; joins = 0; trees = count i })
