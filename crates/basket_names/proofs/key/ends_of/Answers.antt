use Rattle.std.proofs.Common.{◌∙◌, arith}
use Rattle.std.proofs.lemmas.Grind.{common_steps}
use Rattle.basket_names.proofs.KeyLemmas.{eight_joined, four_joined}
use Rattle.basket_names.proofs.key.ends_of.Goals as goal

pub returns-in-Some : goal.returns-in-Some
returns-in-Some c = λ short.
    let (long, front, back) = c.in-Some.ensures in
    eight_joined c.args.name.now c.u64_of.result c.u64_of-in-Some.result long short (c.u64_of.ensures ∙ front) (c.u64_of-in-Some.ensures ∙ back)

pub returns-in-Some-chunks : goal.returns-in-Some-chunks
returns-in-Some-chunks c = λ _. grind (arith, common_steps, four_joined)
