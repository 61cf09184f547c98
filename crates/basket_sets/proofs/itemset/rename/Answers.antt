use Rattle.std.proofs.Common.{◌+◌, ◌∙◌, get_or, set, take, ap, arith}
use Rattle.std.proofs.lemmas.Grind.{common_steps}
use Rattle.std.proofs.lemmas.List.{get_or-set_other}
use Rattle.basket_sets.proofs.RenameLemmas.{named_more}
use Rattle.basket_sets.proofs.theory.Rising.{has_at}
use Rattle.basket_sets.proofs.itemset.rename.Goals as goal

pub bounds-names-numbers : goal.bounds-names-numbers
bounds-names-numbers c = grind (arith, common_steps, has_at c.args.numbers.now c.loop-index.index c.loop-index-test.true)

pub loop-index-preserved : goal.loop-index-preserved
loop-index-preserved c =
    let names = c.args.names.now in
    let before = c.args.numbers.now in
    let now = c.loop-index.numbers in
    let k = c.loop-index.index in
    let named = named_more (λ number. get_or names number 0) now before k (omega (arith, c.loop-index-test.true, c.loop-index.auto.numbers)) c.loop-index-test.true c.loop-index.invariant.named in
    let is = c.loop-index.invariant.others k (omega arith) in
    record {
      named = ap (λ number. take (k + 1) (set now k (get_or names number 0))) is ∙ named;
      others = λ later less. get_or-set_other now k later _ 0 (λ same. omega (arith, ap (λ n. n) same, less)) ∙ c.loop-index.invariant.others later (omega (arith, less));
    }
