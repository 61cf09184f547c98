use Rattle.std.proofs.Common.{◌++◌, ◌∷◌, [], ap, ◌∙◌}
use Rattle.mine_vertical.proofs.search_scratch.SearchScratch.add_marks.Goals as goal

pub returns : goal.returns
returns g c = (c.in_ok-marks.marks, c.in_ok-marks.ensures, c.in_ok-push.ensures.items ∙ ap (λ l. l ++ c.in_ok-marks.marks ∷ []) c.truncate.ensures.items)
