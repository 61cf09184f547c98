use Rattle.std.proofs.Common.{◌≡◌, ◌≢◌, ◌≤◌, ◌∙◌, Ok, Some, ap, length, subst, sym}
use Rattle.basket_report.specs.Items.{items_met}
use Rattle.basket_report.specs.Report.{report_of}
use Rattle.basket_report.specs.Style.{wording_of}
use Rattle.basket_sets.specs.Counts.{item_supports}
use Rattle.basket_sets.proofs.theory.Items.{frequent_items_are_counted}
use Rattle.basket_plan.specs.declared.layout.Layout.{Layout}
use Rattle.basket_plan.specs.declared.plan.Ask.TheVariants.{Items}
use Rattle.basket_outcome.specs.Contents.{wording_with}
use Rattle.basket_outcome.specs.Outcome.{text_of}
use Rattle.basket_mining.specs.Greatest.{greatest_of}
use Rattle.basket_mining.specs.Mining.{work_of}
use Rattle.basket.proofs.ResultLemmas.{few_enough}
use Rattle.basket.proofs.DoneLemmas.{counted, mined}
use Rattle.basket.proofs.engine.report_baskets.Goals as goal

pub returns-in-Items-clause-ok : goal.returns-in-Items-clause-ok
returns-in-Items-clause-ok g c =
    let database = c.args.database in
    let question = c.args.plan.now.question in
    let is : question.ask ≡ Items = sym c.ask-ask.ensures ∙ c.in-Items.is in
    let wording : wording_of c.style_of-style.result ≡ wording_with question.layout.separator c.args.names.now = c.style_of-style.ensures ∙ ap (λ (l : Layout). wording_with l.separator c.args.names.now) c.layout.ensures in
    let counts = c.deref.ensures.value ∙ c.in_ok-counts.ensures.counts ∙ ap item_supports c.baskets.ensures.baskets in
    let written = c.in_ok-text.ensures
    ∙ (λ i. report_of (wording i) (items_met (counts i) (c.minimum-minimum.ensures i) (c.total-total.ensures i)))
    ∙ ap (report_of (wording_with question.layout.separator c.args.names.now)) (sym (frequent_items_are_counted database question.minimum)) in
    rw is (ap Ok (sym written))

pub returns-in-Items-clause-done : goal.returns-in-Items-clause-done
returns-in-Items-clause-done g c =
    let question = c.args.plan.now.question in
    let counts = c.deref-in-Items.ensures.value ∙ c.in_ok-counts.ensures.counts ∙ ap item_supports c.baskets.ensures.baskets in
    c.of_items-done.ensures
    ∙ counted c.args.plan.now.miner question c.args.database c.greatest_count.result (sym c.ask-ask.ensures ∙ c.in-Items.is) (c.greatest_count.ensures ∙ ap greatest_of counts)

pub returns : goal.returns
returns g c =
    let database = c.args.database in
    let question = c.args.plan.now.question in
    let no_items : question.ask ≢ Items = λ is. c.in_default.not-Items (c.ask-ask.ensures ∙ is) in
    let wording : wording_of c.style_of-style.result ≡ wording_with question.layout.separator c.args.names.now = c.style_of-style.ensures ∙ ap (λ (l : Layout). wording_with l.separator c.args.names.now) c.layout.ensures in
    let within = subst (λ l. length l ≤ question.limit) c.in_ok-frequent.ensures.sets c.in_ok-frequent.ensures.within in
    let made = c.in_ok-made.ensures.baskets c.in_default.not-Items database question.minimum (record { sets = c.in_ok-frequent.ensures.sets; total = c.in_ok-frequent.ensures.total }) in
    let text = made ∙ (λ i. text_of (wording i) (c.ask-ask.ensures i) database question.minimum) in
    record {
      done = λ i. record {
        work = (ap Some c.in_ok-frequent.ensures.work ∙ mined question.ask (work_of c.args.plan.now.miner database question.minimum) no_items) i;
        greatest = Some (c.in_ok-frequent.ensures.greatest i);
      };
      ok = rw (few_enough question.ask database question.minimum question.limit no_items within) (ap Ok (sym text));
      err = λ fault is _. absurd cc;
    }
