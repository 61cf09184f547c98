use Rattle.std.proofs.Common.{map, arith}
use Rattle.std.specs.String.{string_bytes}
use Rattle.std.specs.Vec.Iter.{into_iter_items}
use Rattle.basket_names.proofs.theory.Together.{number_first}
use Rattle.basket_names.proofs.names.Numbering.numbers_of.Goals as goal

pub loop-name-preserved : goal.loop-name-preserved
loop-name-preserved c =
    let before = c.loop-name.invariant in
    let rest = map string_bytes (into_iter_items c.next.new.self) in
    let (names, numbers) = number_first c.loop-name.self c.own_number.new.self (string_bytes c.in-Some.name) rest c.loop-name.numbers.items c.push.new.self.items c.in_ok-own_number.field-0
    c.in_ok-own_number.ensures.names c.in_ok-own_number.ensures.number c.in_ok-push.ensures.items in
    grind (arith)
