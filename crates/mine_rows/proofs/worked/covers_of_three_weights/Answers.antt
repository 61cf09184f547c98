use Rattle.std.proofs.Common.{[], ◌∷◌, ap, ◌∙◌}
use Rattle.mine_rows.specs.Cover.{all_tids, cover_weight}
use Rattle.mine_rows.proofs.worked.covers_of_three_weights.Goals as goal

pub returns : goal.returns
returns g c =
    let weights = c.in_ok-weights.weights in (
      c.count.ensures weights (all_tids weights) (0 ∷ 1 ∷ 2 ∷ []) c.in_ok-all.ensures ∙ ap (λ l. cover_weight l (0 ∷ 1 ∷ 2 ∷ [])) c.in_ok-weights.ensures,
      c.count-2.ensures weights (all_tids weights) (0 ∷ 2 ∷ []) c.in_ok-ends.ensures ∙ ap (λ l. cover_weight l (0 ∷ 2 ∷ [])) c.in_ok-weights.ensures,
    )
