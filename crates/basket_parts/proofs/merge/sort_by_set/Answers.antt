use Rattle.std.proofs.Common.{Bool, rules}
use Rattle.std.specs.Ordering.{is_lt}
use Rattle.std.proofs.lemmas.Result.{IfOk-weaker}
use Rattle.std.proofs.lemmas.List.Sorted.{ranks_by, answers_always}
use Rattle.basket_read.specs.declared.counted_line.CountedLine.{CountedLine}
use Rattle.basket_sets.specs.Order.{report_order, report_order_total}
use Rattle.basket_parts.proofs.merge.sort_by_set.Goals as goal

abbrev before : CountedLine → CountedLine → Bool
before a b = is_lt (report_order a.set b.set)

pub returns-clause-sorted : goal.returns-clause-sorted
returns-clause-sorted c = IfOk-weaker c.sort_by.result _ _
    (λ _ by_order. by_order before (ranks_by report_order_total (λ (line : CountedLine). line.set)) (answers_always _ _ _ (λ f a r g h. search rules))) c.sort_by.ensures.sorted

pub returns-clause-stable : goal.returns-clause-stable
returns-clause-stable c = c.sort_by.ensures.stable before (ranks_by report_order_total (λ (line : CountedLine). line.set)) (answers_always _ _ _ (λ f a r g h. search rules))
