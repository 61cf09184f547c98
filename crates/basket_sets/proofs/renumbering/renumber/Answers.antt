use Rattle.std.proofs.Common.{◌∙◌, ap, arith}
use Rattle.std.proofs.lemmas.Grind.{common_steps}
use Rattle.std.proofs.lemmas.List.{get_or-set_other}
use mir.Val.{bool_byte}
use Rattle.basket_sets.proofs.NameLemmas.{one_at_most, put_more}
use Rattle.basket_sets.proofs.renumbering.renumber.Goals as goal

pub loop-index-preserved : goal.loop-index-preserved
loop-index-preserved g c =
    let before = c.args.numbers.now in
    let now = c.loop-index.numbers in
    let k = c.loop-index.index in
    let len = c.loop-index.len in
    let was = c.loop-index.invariant in
    let name_of = g.N.Renumbering.name_of c.args.names.now in
    let counted = c.from-len.ensures ∙ ap bool_byte c.is_some.ensures in
    let most = one_at_most c.is_some.result in
    record {
      few = omega (arith, was.few, most, c.from-len.ensures);
      named = grind (arith, common_steps, put_more);
      others = λ later less. get_or-set_other now len later _ 0 (λ same. omega (arith, ap (λ n. n) same, less, was.few)) ∙ was.others later (omega (arith, less));
    }
