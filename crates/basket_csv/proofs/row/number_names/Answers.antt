use Rattle.std.proofs.Common.{arith}
use Rattle.std.proofs.lemmas.Grind.{common_steps}
use Rattle.basket_csv.specs.Record.{fields_of}
use Rattle.basket_csv.proofs.RowLemmas.{known_name, nil_test, no_name, one_name}
use Rattle.basket_csv.proofs.row.number_names.Goals as goal
use Rattle.basket_csv.proofs.row.number_names.Goals.{then-not-is_empty+in_ok-number+in_ok-push-2}

pub loop-index-preserved-in-Some : goal.loop-index-preserved-in-Some
loop-index-preserved-in-Some c =
    let below = rw c.len-index-end.ensures at c.loop-index-test.true in
    rw (c.in_ok-push.ensures.items)
    (known_name (fields_of c.args.row.now) c.args.first c.loop-index.index c.args.names.now c.loop-index.names c.loop-index.numbers.items c.in-Some.number below c.in-Some.ensures c.loop-index.invariant)

pub loop-index-preserved : goal.loop-index-preserved
loop-index-preserved c = grind (arith, common_steps, nil_test, one_name, no_name)
