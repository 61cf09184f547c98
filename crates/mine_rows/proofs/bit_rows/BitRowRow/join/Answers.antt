use Rattle.std.proofs.Common.{leb, ap, ◌∙◌, arith}
use Rattle.std.proofs.lemmas.Grind.{common_steps}
use Rattle.mine_rows.specs.Cover.{common}
use Rattle.mine_rows.proofs.RowLemmas.{common_covers}
use Rattle.mine_rows.proofs.PlaneLemmas.{row_ones, row_words}
use Rattle.mine_rows.proofs.WordLemmas.{length-words}
use Rattle.mine_rows.proofs.bit_rows.BitRowRow.join.Goals as goal

pub share-requires-clause-same : goal.share-requires-clause-same
share-requires-clause-same c = grind (arith, common_steps, length-words)

pub share-requires-clause-few : goal.share-requires-clause-few
share-requires-clause-few c = grind (arith, common_steps, length-words)

pub weight_of_bits-self-requires-clause-cover : goal.weight_of_bits-self-requires-clause-cover
weight_of_bits-self-requires-clause-cover c =
    let (parent, first, second, p, q) = c.requires.rows in
    let weights = c.args.weights.now in (
      common first second,
      common_covers weights parent first second p.covers,
      c.in_ok-ones.ensures.words ∙ row_words weights parent first second c.args.x.now c.args.y.now p q,
      c.in_ok-ones.ensures.ones ∙ row_ones weights parent first second c.args.x.now c.args.y.now p q,
    )

pub returns-clause-row : goal.returns-clause-row
returns-clause-row c = λ frequent parent first second p q.
    let weights = c.args.weights.now in
    let covers = common_covers weights parent first second p.covers in
    let made = c.in_ok-ones.ensures.words ∙ row_words weights parent first second c.args.x.now c.args.y.now p q in
    let ones = c.in_ok-ones.ensures.ones ∙ row_ones weights parent first second c.args.x.now c.args.y.now p q in
    record {
      covers = covers;
      words = made;
      count = c.weight_of_bits-self.ensures (common first second) covers made ones;
    }

pub returns-clause-frequent : goal.returns-clause-frequent
returns-clause-frequent c = λ parent first second p q.
    let weights = c.args.weights.now in
    ap (leb c.args.least) (c.weight_of_bits-self.ensures (common first second) (common_covers weights parent first second p.covers)
    (c.in_ok-ones.ensures.words ∙ row_words weights parent first second c.args.x.now c.args.y.now p q)
    (c.in_ok-ones.ensures.ones ∙ row_ones weights parent first second c.args.x.now c.args.y.now p q))
