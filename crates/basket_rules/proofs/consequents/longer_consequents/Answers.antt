use Rattle.std.proofs.Common.{ap, sym, ◌∙◌, ◌++◌}
use Rattle.basket_rules.specs.Consequents.{longer_by}
use Rattle.basket_rules.proofs.ConsequentLemmas.{longer_more}
use Rattle.basket_rules.proofs.consequents.longer_consequents.Goals as goal

pub loop-index-preserved : goal.loop-index-preserved
loop-index-preserved c =
    c.in_ok-add_longer.ensures ∙ ap (λ l. l ++ longer_by c.args.met.now c.loop-index.index) c.loop-index.invariant ∙ sym (longer_more c.args.met.now c.loop-index.index)
