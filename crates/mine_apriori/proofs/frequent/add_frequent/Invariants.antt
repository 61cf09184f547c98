use Rattle.std.proofs.Common.{◌≡◌, ◌-◌, ◌++◌, drop, filter, map, take}
use Rattle.std.specs.Prelude.{slice_range}
use Rattle.basket_sets.specs.Frequent.{is_frequent}
use Rattle.basket_sets.specs.Support.{support_of}
use Rattle.mine_supports.specs.Extensions.{kept, sets_of}
use Rattle.mine_apriori.specs.Levels.{decoded_sets}
use Rattle.mine_apriori.proofs.frequent.add_frequent.Given as goal

abbrev pub invariant-loop-number : goal.invariant-loop-number
invariant-loop-number l =
    let groups = slice_range l.sets l.fn.range.start l.fn.range.end in
    let number = l.number - l.fn.range.start in
    record {
      rest : l.rest ≡ map (support_of l.coded.baskets) (sets_of (drop number groups));
      level : l.level ≡ kept (is_frequent l.coded.baskets l.coded.minimum) (take number groups);
      found : l.found ≡ l.initial.found ++ decoded_sets l.coded (filter (is_frequent l.coded.baskets l.coded.minimum) (sets_of (take number groups)));
    }
