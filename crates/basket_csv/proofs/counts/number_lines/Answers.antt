use Rattle.std.proofs.Common.{refl, arith}
use Rattle.std.proofs.lemmas.List.{length-set}
use Rattle.basket_csv.proofs.CountLemmas.{numbered_more}
use Rattle.basket_csv.proofs.counts.number_lines.Goals as goal

pub loop-index-preserved : goal.loop-index-preserved
loop-index-preserved c = record {
  long = simp length-set c.loop-index.invariant.long;
  nth = let at = c.loop-index.invariant.nth in omega (arith, c.in_ok-nth.ensures.sum);
  numbered = numbered_more c.args.first c.args.lines.now c.loop-index.lines c.loop-index.index c.loop-index.nth c.index-lines-index.result _ c.loop-index-test.true c.loop-index.invariant.numbered c.loop-index.invariant.nth refl;
}
