use Rattle.std.proofs.Common.{rules, of_calls, ◌≡◌, ◌<◌, List, length, Some, None, subst, ap, arith, Err}
use Rattle.std.specs.declared.cmp.Ordering.TheVariants.{Equal}
use Rattle.std.specs.List.{HoldsAt}
use Rattle.std.specs.List.Sorted.{IsBinarySearchResult}
use Rattle.std.proofs.lemmas.Fn.{always_returns_same}
use Rattle.basket_read.specs.declared.counted_line.CountedLine.{CountedLine}
use Rattle.basket_sets.specs.Order.{report_order}
use Rattle.basket_parts.specs.CombinedCounts.{count_if}
use Rattle.basket_parts.proofs.SearchLemmas.{found_count, missing_count}
use Rattle.basket_parts.proofs.combined.CombinedCounts.count_of.Goals as goal

pub returns-in-Ok : goal.returns-in-Ok
returns-in-Ok c =
    let lines = c.self.inside.lines.items in
    let set = c.args.set.now in
    let index = c.in-Ok.index in
    let line = c.index.result.now in
    let below : index < length lines = omega (arith, c.in-Ok.ensures.bound, ap length c.deref.ensures.value) in
    let compared = always_returns_same _ _ _ (λ a r f k. search (rules, of_calls)) in
    let at = subst (λ (l : List CountedLine). HoldsAt (λ (y : CountedLine). report_order y.set set ≡ Equal) l index) c.deref.ensures.value
    (c.in-Ok.ensures.position (λ y. report_order y.set set) compared) in
    subst (λ l. Some line.count ≡ count_if l set) c.self.view_is
    (found_count lines set index line c.self.invariant.in_order below c.index.ensures at)

pub returns-in-Err : goal.returns-in-Err
returns-in-Err c =
    let lines = c.self.inside.lines.items in
    let set = c.args.set.now in
    let index = c.in-Err.field-0 in
    let compared = always_returns_same _ _ _ (λ a r f k. search (rules, of_calls)) in
    let at = subst (λ (l : List CountedLine). IsBinarySearchResult (λ (y : CountedLine). report_order y.set set) l (Err index)) c.deref.ensures.value
    (c.in-Err.ensures.position (λ y. report_order y.set set) compared) in
    subst (λ l. None ≡ count_if l set) c.self.view_is (missing_count lines set index c.self.invariant.in_order at)
