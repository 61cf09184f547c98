use Rattle.std.proofs.Common.{arith}
use Rattle.std.proofs.lemmas.Grind.{common_steps}
use Rattle.std.proofs.lemmas.Result.{on_ok_weaker}
use Rattle.basket_lists.proofs.ListLemmas.{kept_here, packed_is_kept, packed_pushed}
use Rattle.basket_lists.proofs.counted_sets.append.append_word.Goals as goal

pub returns-in-None-clause-kept : goal.returns-in-None-clause-kept
returns-in-None-clause-kept c coding all other =
    let plain = c.args.plain.now in
    c.push_word.ensures.kept coding plain all (packed_is_kept coding plain c.args.other (other.here c.in-None.ensures.here))

pub returns-in-None-clause-sets : goal.returns-in-None-clause-sets
returns-in-None-clause-sets c coding all other = grind (arith, common_steps, on_ok_weaker, packed_pushed, kept_here)

pub returns-in-Some-clause-kept : goal.returns-in-Some-clause-kept
returns-in-Some-clause-kept c coding all other = c.push_elsewhere.ensures.kept coding all

pub returns-in-Some-clause-sets : goal.returns-in-Some-clause-sets
returns-in-Some-clause-sets c coding all other = grind (arith, common_steps)
