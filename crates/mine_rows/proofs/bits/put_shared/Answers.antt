use Rattle.std.proofs.Common.{◌++◌, ◌∷◌, [], get_or, sym, ap, ◌∙◌, arith}
use Rattle.std.specs.Prelude.{bit_and}
use Rattle.std.proofs.lemmas.List.{length-set, take_more_set}
use Rattle.mine_rows.proofs.BitLemmas.{both_more, shared_step}
use Rattle.mine_rows.proofs.bits.put_shared.Goals as goal

pub loop-at-preserved : goal.loop-at-preserved
loop-at-preserved c =
    let x = c.args.x.now in
    let y = c.args.y.now in
    let words = c.loop-at.words in
    let i = c.loop-at.at in
    let word = bit_and (get_or x i 0) (get_or y i 0) in
    let step = shared_step x y i c.requires.same (omega (arith, c.loop-at-test.true, c.loop-at.invariant.long)) in
    record {
      long = length-set words i word ∙ c.loop-at.invariant.long;
      ones = omega (arith, step, c.loop-at.invariant.ones, c.from-ones.ensures);
      made = take_more_set words i word (omega (arith, c.loop-at-test.true, c.loop-at.invariant.long, c.requires.long)) ∙ ap (λ l. l ++ word ∷ []) c.loop-at.invariant.made
          ∙ sym (both_more x y i c.requires.same (omega (arith, c.loop-at-test.true, c.loop-at.invariant.long)));
    }
