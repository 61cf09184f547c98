-- Worked inputs and questions.
use Rattle.std.specs.Prelude.{ℕ, false, List, codes}
use Rattle.basket_read.specs.Worked.{lines}
use Rattle.basket_plan.specs.declared.layout.Form.{Form}
use Rattle.basket_plan.specs.declared.plan.Ask.{Ask}
use Rattle.basket_plan.specs.Plan.{GREATEST_LIMIT, Question}
use Rattle.basket_sets.specs.declared.minimum.Minimum.TheVariants.{Count}

-- nine baskets over five items
abbrev pub nine_baskets : List ℕ
nine_baskets = lines (codes "1 2 5|2 4|2 3|1 2 4|1 3|2 3|1 3|1 2 3 5|1 2 3|")

-- a question at a minimum of so much, where there may be so many sets, of an input as the command line takes it without further options
abbrev pub limited : Form → Ask → ℕ → ℕ → Question
limited form ask count limit = record { ask = ask; minimum = Count count; limit = limit; layout = record { form = form; separator = 44; header = false; weighted = false } }

-- the same with the greatest limit
abbrev pub asked : Form → Ask → ℕ → Question
asked form ask count = limited form ask count GREATEST_LIMIT
