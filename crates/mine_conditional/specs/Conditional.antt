-- The baskets of a conditional database.
use Rattle.mine_baskets.specs.ListBaskets.{RankBaskets}
use Rattle.mine_conditional.specs.declared.conditional.Conditional.{Conditional}
use Rattle.mine_conditional.specs.declared.conditional.Conditional.TheVariants.{Lists, Words}

-- in whichever form they are kept
abbrev pub conditional_baskets : Conditional → RankBaskets
conditional_baskets (Lists lists) = lists
conditional_baskets (Words words) = words
