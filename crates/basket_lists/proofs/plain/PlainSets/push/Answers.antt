use Rattle.std.proofs.Common.{arith}
use Rattle.std.proofs.lemmas.Grind.{common_steps}
use Rattle.std.proofs.lemmas.List.{length-append}
use Rattle.basket_lists.proofs.PlainLemmas.{IsAtEnd, on_any_error, spans_pushed, spanned_sets-append, spanned_sets_pushed}
use Rattle.basket_lists.proofs.plain.PlainSets.push.Goals as goal

-- the set stands at the end
at_end : (c : goal.In_ok-push) → IsAtEnd c.self.inside.items.items c.args.set.now (record { start = c.in_ok-start.start; end = c.in_ok-end.end; count = c.args.count })
at_end c = grind (arith, common_steps, length-append)

pub invariant_of-self-2 : goal.invariant_of-self-2
invariant_of-self-2 c = grind (arith, common_steps, spans_pushed, at_end)

pub returns-clause-pushed : goal.returns-clause-pushed
returns-clause-pushed c = grind (arith, common_steps, spanned_sets_pushed, at_end)

pub returns-in_err-end-clause-kept : goal.returns-in_err-end-clause-kept
returns-in_err-end-clause-kept c = grind (arith, common_steps, on_any_error, spanned_sets-append)

pub returns-in_err-push-clause-kept : goal.returns-in_err-push-clause-kept
returns-in_err-push-clause-kept c = grind (arith, common_steps, on_any_error, spanned_sets-append)
