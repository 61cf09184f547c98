use Rattle.std.proofs.Common.{◌∙◌, ◌<◌, [], length, get_or, sym, arith}
use Rattle.std.proofs.lemmas.List.{drop_more}
use Rattle.basket_sets.specs.declared.counted.Counted.{Counted}
use Rattle.basket_lists.proofs.sets.SetsIterator.next.Goals as goal

pub returns-clause-steps : goal.returns-clause-steps
returns-clause-steps c =
    let all = c.self.inside.list.now in
    let index = c.self.inside.index in
    let none : Counted = record { set = []; count = 0 } in
    let inside : index < length all = omega (arith, c.self.invariant, c.if-self-len.false, c.len.ensures) in
    (get_or all index none, sym c.self.view_is ∙ drop_more all index none inside, c.counted.ensures)
