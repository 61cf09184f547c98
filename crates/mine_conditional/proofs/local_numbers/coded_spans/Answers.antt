use Rattle.std.proofs.Common.{◌≡◌, ◌≤◌, ◌+◌, ◌++◌, length, take, drop, refl, subst, sym, ap, ◌∙◌, arith}
use Rattle.std.proofs.lemmas.Grind.{common_steps}
use Rattle.std.specs.Prelude.{All}
use Rattle.std.proofs.lemmas.List.{length-append, length-take-le}
use Rattle.basket_sets.specs.Database.{weighted}
use Rattle.mine_baskets.specs.declared.span.Span.{Span}
use Rattle.mine_baskets.specs.Baskets.{baskets_in}
use Rattle.mine_conditional.specs.LocalNumbers.{table_numbers}
use Rattle.mine_baskets.specs.Span.{IsWithin, baskets_at}
use Rattle.mine_conditional.proofs.NumberLemmas.{placed_more}
use Rattle.std.proofs.lemmas.List.{with_items_is}
use Rattle.mine_conditional.proofs.local_numbers.coded_spans.Goals as goal

pub loop-index-preserved : goal.loop-index-preserved
loop-index-preserved c =
    let spans = c.loop-index.spans.items in
    let first = c.loop-index.end in
    let locals = take first c.loop-index.locals.items in
    let now = c.put_numbers-end.new.locals in
    let was = c.loop-index.invariant in
    let more = table_numbers c.args.of.now c.at-weight.result.0.now in
    let made = c.make_room.new.list in
    let same : take made.len (now ++ drop (length now) made.items) ≡ now = with_items_is made now (omega (arith, made.ok, c.put_numbers-end.auto.locals, c.deref_mut.ensures.len)) in
    let grown : take c.put_numbers-end.result now ≡ locals ++ more = grind (arith, common_steps) in
    let span : Span = record { start = c.in_ok-start.start; end = c.in_ok-as_index.field-0; weight = c.at-weight.result.1 } in
    let pushed = c.in_ok-push.ensures.items in
    let front : length locals ≡ first = length-take-le first c.loop-index.locals.items (omega (arith, was.room)) in
    let long : c.put_numbers-end.result ≡ first + length more =
    sym (length-take-le c.put_numbers-end.result now (omega (arith, c.put_numbers-end.ensures.within, c.put_numbers-end.auto.locals))) ∙ ap length grown ∙ length-append locals more ∙ ap (λ n. n + length more) front in
    let inside : IsWithin c.put_numbers-end.result span = record { ordered = omega (arith, c.in_ok-start.ensures, c.in_ok-as_index.ensures, long); within = omega (arith, c.in_ok-as_index.ensures) } in
    record {
      room = subst (λ l. c.put_numbers-end.result ≤ length l) (sym same) (omega (arith, c.put_numbers-end.ensures.within, c.put_numbers-end.auto.locals));
      within = grind (arith, common_steps);
      placed = ap (λ l. baskets_at (take c.put_numbers-end.result l) c.push.new.self.items) same
          ∙ ap (λ l. baskets_at l c.push.new.self.items) grown ∙ ap (baskets_at (locals ++ more)) pushed
          ∙ placed_more (baskets_in c.args.baskets) locals c.args.of.now spans c.loop-index.index (weighted c.at-weight.result.0.now c.at-weight.result.1) span
          (omega (arith, c.loop-index-test.true, c.len-index-end.ensures)) c.at-weight.ensures.basket (subst (λ n. All (IsWithin n) spans) (sym front) was.within)
          (c.in_ok-start.ensures ∙ sym front) (c.in_ok-as_index.ensures ∙ long ∙ ap (λ n. n + length more) (sym front)) refl was.placed;
    }
