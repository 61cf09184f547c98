use Rattle.std.proofs.Common.{◌∙◌}
use Rattle.std.proofs.Math.Dec.{leb-zero}
use Rattle.mine_rows.specs.Cover.{common, cover_weight}
use Rattle.mine_rows.proofs.row.Row.joined.Goals as goal

pub returns : goal.returns
returns g c = λ parent first second p q.
    c.in_ok-join.ensures.row (c.in_ok-join.ensures.frequent parent first second p q ∙ leb-zero (cover_weight c.args.weights.now (common first second))) parent first second p q
