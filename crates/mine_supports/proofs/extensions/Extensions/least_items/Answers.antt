use Rattle.std.proofs.Common.{◌<◌, length, subst, sym, ap, ◌∙◌, arith}
use Rattle.std.proofs.lemmas.List.{take_all}
use Rattle.mine_supports.specs.Extensions.{extend, lists_of, prefixes_of, sets_of}
use Rattle.mine_supports.specs.Needed.{AreAtLeast}
use Rattle.mine_supports.proofs.theory.Extensions.{items_read, lists_back, lists_long, no_group, prefix_read, prefixes_back}
use Rattle.mine_supports.proofs.NeededLemmas.{at_least_more}
use Rattle.mine_supports.proofs.extensions.Extensions.least_items.Goals as goal

pub loop-number-preserved : goal.loop-number-preserved
loop-number-preserved c =
    let groups = c.args.self.now in
    let number = c.loop-number.number in
    let inside = c.self.inside in
    let lists = sym (ap lists_of (sym c.self.view_is) ∙ lists_back inside.prefixes.items inside.lists.items c.self.invariant.0) in
    let prefixes = sym (ap prefixes_of (sym c.self.view_is) ∙ prefixes_back inside.prefixes.items inside.lists.items c.self.invariant.0) in
    let here : number < length groups = omega (arith, c.loop-number-test.true, ap length (c.deref-items-items.ensures.value ∙ lists), lists_long groups) in
    let prefix = c.items.ensures.items ∙ prefix_read groups inside.prefixes.items number c.index.result.now prefixes here c.index.ensures in
    let items = c.items-in-loop-number.ensures.items
    ∙ items_read groups c.deref-items-items.result.now number c.items-item.result (c.deref-items-items.ensures.value ∙ lists) here c.items-item.is in
    at_least_more groups number no_group c.loop-number.least c.min-least.result c.least_of.result here (omega (arith, c.min-least.ensures)) (omega (arith, c.min-least.ensures))
    c.loop-number.invariant (subst (AreAtLeast c.least_of.result) (λ i. extend (prefix i) (items i)) c.least_of.ensures)

pub returns : goal.returns
returns c =
    let groups = c.args.self.now in
    let inside = c.self.inside in
    let lists = sym (ap lists_of (sym c.self.view_is) ∙ lists_back inside.prefixes.items inside.lists.items c.self.invariant.0) in
    subst (λ l. AreAtLeast c.loop-number.least (sets_of l))
    (take_all c.loop-number.number groups (omega (arith, c.loop-number-test.false, ap length (c.deref-items-items.ensures.value ∙ lists), lists_long groups))) c.loop-number.invariant
