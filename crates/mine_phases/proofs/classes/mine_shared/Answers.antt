use Rattle.std.proofs.Common.{List, sym, subst, arith}
use Rattle.std.specs.List.{flat_map}
use Rattle.basket_ranks.specs.Codes.{Coding, baskets_of}
use Rattle.basket_sets.specs.declared.counted.Counted.{Counted}
use Rattle.basket_sets.specs.Frequent.{ListsOnce}
use Rattle.mine_phases.proofs.Sharing.{once_of_all, work_fits, work_of_all}
use Rattle.mine_phases.proofs.classes.mine_shared.Goals as goal

pub joined-requires : goal.joined-requires
joined-requires g c =
    let mined = c.in_ok-classes.ensures.mined in
    work_fits c.args.coded.now (g.M.ClassMiner.rests_on c.args.miner) (g.M.ClassMiner.work_of c.args.miner) c.in_ok-classes.classes.items mined.each c.args.limit
    mined.is_coding mined.within (omega (arith, c.ranges.limit))

pub of_classes_shared-requires-after_bounds : goal.of_classes_shared-requires-after_bounds
of_classes_shared-requires-after_bounds g c κs within =
    let coding : Coding = c.args.coded.now in
    subst (λ (l : List (List Counted)). ListsOnce (baskets_of coding) coding.minimum (flat_map (λ (class : List Counted). class) l)) (sym c.in_ok-classes-2.ensures.classes)
    (once_of_all coding (g.M.ClassMiner.rests_on c.args.miner) (g.M.ClassMiner.work_of c.args.miner) c.in_ok-classes.classes.items c.in_ok-classes.ensures.mined.each c.in_ok-classes.ensures.mined.is_coding)

pub returns-clause-work : goal.returns-clause-work
returns-clause-work g c = work_of_all c.args.coded.now (g.M.ClassMiner.rests_on c.args.miner) (g.M.ClassMiner.work_of c.args.miner) c.in_ok-classes.classes.items c.in_ok-classes.ensures.mined.each c.in_ok-classes-2.work c.in_ok-classes-2.ensures.work
