use Rattle.std.proofs.Common.{◌<◌, ◌-◌, ℕ, List, length, get_or, sym, subst, arith}
use Rattle.std.proofs.lemmas.Grind.{common_steps}
use Rattle.std.proofs.lemmas.List.{drop_more}
use Rattle.basket_sets.proofs.theory.Rising.{has_at}
use Rattle.basket_lists.proofs.known.KnownItems.pack_renamed.Goals as goal

pub loop-left-init : goal.loop-left-init
loop-left-init c = grind (arith, common_steps)

pub bounds-names-items : goal.bounds-names-items
bounds-names-items c =
    let numbers = c.args.numbers.now in
    let at = c.loop-left.left - 1 in
    let same = c.items-items.ensures.items in
    let inside : at < length numbers = omega (arith, c.loop-left.invariant.3, c.loop-left-test.true) in
    subst (λ (items : List ℕ). get_or items at 0 < length c.args.names.now) (sym same) (c.requires (get_or numbers at 0) (has_at numbers at inside))

pub longer-requires : goal.longer-requires
longer-requires c = c.loop-left.invariant.0

pub loop-left-preserved : goal.loop-left-preserved
loop-left-preserved c = grind (arith, common_steps, drop_more)

pub returns-clause-packed : goal.returns-clause-packed
returns-clause-packed c = c.loop-left.invariant.0

pub returns-clause-same : goal.returns-clause-same
returns-clause-same c = grind (arith, common_steps)
