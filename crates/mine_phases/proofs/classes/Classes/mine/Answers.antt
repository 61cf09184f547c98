use Rattle.std.proofs.Common.{◌≡◌, ap, ◌∙◌, arith}
use Rattle.std.proofs.lemmas.Grind.{common_steps}
use Rattle.mine_phases.specs.RoundTally.{TallyView}
use Rattle.mine_phases.proofs.classes.Classes.mine.Goals as goal

pub returns-clause-too_many : goal.returns-clause-too_many
returns-clause-too_many g c most e =
    let limit = c.args.self.now.limit in
    let told = c.add_classes-mined.ensures.too_many most e in
    let is : most ≡ limit = told.0 ∙ ap (λ (f : TallyView). f.limit) c.new-tally.ensures in
    let kept : c.add_classes-mined.new.tally.limit ≡ limit = c.add_classes-mined.ensures.limit ∙ ap (λ (f : TallyView). f.limit) c.new-tally.ensures in
    grind (arith, common_steps)
