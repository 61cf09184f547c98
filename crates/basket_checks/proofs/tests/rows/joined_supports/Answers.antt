use Rattle.std.proofs.Common.{List, ℕ, [], ◌∷◌}
use Rattle.basket_sets.proofs.theory.Rising.{rising-rises}
use Rattle.mine_rows.specs.Cover.{all_tids, common}
use Rattle.basket_checks.proofs.tests.rows.joined_supports.Goals as goal

-- the covers of 1, 2 and 3
abbrev one : List ℕ
one = 0 ∷ 3 ∷ 4 ∷ 6 ∷ 7 ∷ 8 ∷ []

abbrev two : List ℕ
two = 0 ∷ 1 ∷ 2 ∷ 3 ∷ 5 ∷ 7 ∷ 8 ∷ []

abbrev three : List ℕ
three = 2 ∷ 4 ∷ 5 ∷ 6 ∷ 7 ∷ 8 ∷ []

pub first-requires-clause-rises : goal.first-requires-clause-rises
first-requires-clause-rises g c = rising-rises one

pub first-requires-2-clause-rises : goal.first-requires-2-clause-rises
first-requires-2-clause-rises g c = rising-rises two

pub first-requires-3-clause-rises : goal.first-requires-3-clause-rises
first-requires-3-clause-rises g c = rising-rises three

pub joined-requires-3 : goal.joined-requires-3
joined-requires-3 g c =
    let all = all_tids c.in_ok-weights.weights in (
      one,
      common one two,
      common one three,
      c.in_ok-one_two.ensures all one two c.in_ok-one.ensures c.in_ok-two.ensures,
      c.in_ok-one_three.ensures all one three c.in_ok-one.ensures c.in_ok-three.ensures,
    )
