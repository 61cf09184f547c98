use Rattle.std.proofs.Common.{◌≡◌, refl, subst, arith}
use Rattle.std.specs.Prelude.{IfOk}
use Rattle.std.specs.List.{range_with_len}
use Rattle.std.proofs.lemmas.Iterator.{YieldsList-from_range, items_from_collect}
use Rattle.basket_csv.proofs.together.first_numbers.Goals as goal

pub returns-in-Ok : goal.returns-in-Ok
returns-in-Ok c = subst (λ n. IfOk c.collect.result (λ numbers. numbers.items ≡ range_with_len 0 n)) c.in-Ok.ensures.1 (items_from_collect _ c.collect.ensures.ran (YieldsList-from_range 0 _ _ refl (omega arith)))
