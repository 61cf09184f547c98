use Rattle.std.proofs.Common.{◌≡◌, ◌+◌, ap, sym, ◌∙◌, arith}
use Rattle.std.proofs.lemmas.Grind.{common_steps}
use Rattle.basket_mining.specs.Greatest.{greatest_of}
use Rattle.basket_report.specs.Items.{items_met}
use Rattle.basket_report.specs.Report.{report_of}
use Rattle.basket_report.specs.Style.{wording_of}
use Rattle.basket_sets.specs.Counts.{item_supports}
use Rattle.basket_sets.specs.Support.{total_of}
use Rattle.basket_sets.proofs.theory.Items.{frequent_items_are_counted}
use Rattle.basket.proofs.ItemLemmas.{totals_add}
use Rattle.basket.proofs.items.report_counts.Goals as goal
use Rattle.basket_ranks.proofs.theory.Added.{added_is, sums_fit, supports_rise}

pub add_counts-requires-clause-rising : goal.add_counts-requires-clause-rising
add_counts-requires-clause-rising g c = grind (arith, common_steps, supports_rise)

pub add_counts-requires-clause-fits : goal.add_counts-requires-clause-fits
add_counts-requires-clause-fits g c =
    let counted = c.requires.1 in
    let front = c.deref.ensures.value ∙ c.in_ok-first.ensures.counts counted.0 counted.1 in
    let back = c.deref-2.ensures.value ∙ c.in_ok-rest.ensures.counts ∙ ap item_supports c.baskets.ensures.baskets in
    sums_fit c.deref.result.now c.deref-2.result.now counted.0 c.args.counts.now.rest c.requires.0 front back (sym counted.2) c.requires.2

pub returns : goal.returns
returns g c = record {
  report = λ baskets counted.
      let minimum = c.args.plan.now.question.minimum in
      let front = c.deref.ensures.value ∙ c.in_ok-first.ensures.counts counted.0 counted.1 in
      let back = c.deref-2.ensures.value ∙ c.in_ok-rest.ensures.counts ∙ ap item_supports c.baskets.ensures.baskets in
      let counts = c.deref-3.ensures.value ∙ c.in_ok-all.ensures.counts ∙ added_is c.deref.result.now c.deref-2.result.now counted.0 c.args.counts.now.rest baskets front back (sym counted.2) in
      let total : c.total.result + c.total-2.result ≡ total_of baskets = omega (arith, c.total.ensures, c.total-2.ensures, counted.1.total, totals_add counted.0 c.args.counts.now.rest baskets counted.2) in
      c.in_ok-report.ensures
      ∙ (λ i. report_of (wording_of c.args.style) (items_met (counts i) (c.minimum.ensures i) (total i)))
      ∙ ap (report_of (wording_of c.args.style)) (sym (frequent_items_are_counted baskets minimum));
  greatest = λ baskets counted.
      let front = c.deref.ensures.value ∙ c.in_ok-first.ensures.counts counted.0 counted.1 in
      let back = c.deref-2.ensures.value ∙ c.in_ok-rest.ensures.counts ∙ ap item_supports c.baskets.ensures.baskets in
      let counts = c.deref-4.ensures.value ∙ c.in_ok-all.ensures.counts ∙ added_is c.deref.result.now c.deref-2.result.now counted.0 c.args.counts.now.rest baskets front back (sym counted.2) in
      c.greatest_count.ensures ∙ ap greatest_of counts;
}
