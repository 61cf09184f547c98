use Rattle.std.proofs.Common.{subst, ◌∙◌}
use Rattle.mine_rows.specs.Weights.{KeepsWeights}
use Rattle.mine_rows.proofs.PlaneLemmas.{kept_few, kept_light, kept_narrow, kept_weigh, kept_wide}
use Rattle.mine_rows.proofs.weights.Weights.weight_of_bits.Goals as goal

pub weight_by_planes-requires : goal.weight_by_planes-requires
weight_by_planes-requires c =
    let (cover, is, words, ones) = c.requires.cover in
    let keeps = subst (λ l. KeepsWeights l c.self.inside.are_ones) c.self.view_is c.self.invariant in
    record {
      few = kept_few c.args.self.now c.self.inside.are_ones c.args.planes.now keeps c.requires.planes cover c.args.words.now.items is words;
      wide = kept_wide c.args.self.now c.self.inside.are_ones c.args.planes.now keeps c.requires.planes cover c.args.words.now.items is words c.if-self.false;
      narrow = kept_narrow c.args.self.now c.self.inside.are_ones c.args.planes.now keeps c.requires.planes cover c.args.words.now.items is words c.if-self.false;
      light = kept_light c.args.self.now c.self.inside.are_ones c.args.planes.now keeps c.requires.planes cover c.args.words.now.items is words c.if-self.false;
    }

pub returns : goal.returns
returns c = λ cover is words ones.
    let keeps = subst (λ l. KeepsWeights l c.self.inside.are_ones) c.self.view_is c.self.invariant in
    c.weight_by_planes.ensures
    ∙ kept_weigh c.args.self.now c.self.inside.are_ones c.args.planes.now keeps c.requires.planes cover c.args.words.now.items is words c.if-self.false
