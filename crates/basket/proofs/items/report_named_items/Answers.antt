use Rattle.std.proofs.Common.{◌∙◌, Some, ap, subst, sym}
use Rattle.std.proofs.lemmas.Option.{IfSome_then}
use Rattle.basket_csv.specs.Read.{AreCountsNamed}
use Rattle.basket_plan.specs.declared.layout.Form.{Form}
use Rattle.basket_plan.specs.declared.layout.Layout.{Layout}
use Rattle.basket_read.specs.Fault.{IsRead}
use Rattle.basket_report.specs.Report.{report_of}
use Rattle.basket_sets.specs.Frequent.{frequent_items_of}
use Rattle.basket_outcome.specs.declared.contents.Contents.TheVariants as contents
use Rattle.basket_outcome.specs.Contents.{FailsIn, by_names, wording_with}
use Rattle.basket_outcome.specs.Outcome.{outcome_of}
use Rattle.basket.proofs.DoneLemmas.{done_for_items}
use Rattle.basket.specs.Done.{IsDoneFor}
use Rattle.basket.proofs.ItemLemmas.{counts_report, csv_counted, csv_greatest, csv_of, csv_outcome, memory_refuses, reader_refuses}
use Rattle.basket.proofs.items.report_named_items.Goals as goal

pub returns-in-Err-clause-made : goal.returns-in-Err-clause-made
returns-in-Err-clause-made g c =
    let left = g.S.Source.left c.args.reader.now in
    let after = g.S.Source.left c.count_baskets.new.reader in
    let question = c.args.plan.now.question in
    reader_refuses AreCountsNamed (csv_of question) IsRead left after question _ c.in-Err.fault
    (λ bytes told. csv_outcome question c.requires.records bytes ∙ ap (λ r. outcome_of (by_names contents.Baskets r) question) told)
    (λ fails. subst (λ (form : Form). FailsIn form left after c.in-Err.fault) (sym c.requires.records) fails)
    (rw (c.layout-layout.ensures, c.none-known.ensures) at c.in-Err.ensures.counted)

pub returns-in-Ok-report_counts-clause-made : goal.returns-in-Ok-report_counts-clause-made
returns-in-Ok-report_counts-clause-made g c =
    let left = g.S.Source.left c.args.reader.now in
    let question = c.args.plan.now.question in
    let counts = c.in-Ok.counted.0 in
    let names = c.in-Ok.counted.1 in
    let (working, read) = rw (c.layout-layout.ensures, c.none-known.ensures) at c.in-Ok.ensures.counted in (
      working,
      counts_report left question counts (Some names) _ c.requires.items (IfSome_then left read (csv_counted question counts names c.requires.records))
          (λ baskets counted. c.in-Ok-report_counts.ensures.report baskets counted
          ∙ ap (λ (l : Layout). report_of (wording_with l.separator (Some names)) (frequent_items_of baskets question.minimum)) c.layout-layout.ensures),
    )

pub returns-clause-made : goal.returns-clause-made
returns-clause-made g c =
    let left = g.S.Source.left c.args.reader.now in
    let question = c.args.plan.now.question in
    let counts = c.in-Ok.counted.0 in
    let names = c.in-Ok.counted.1 in
    let (working, read) = rw (c.layout-layout.ensures, c.none-known.ensures) at c.in-Ok.ensures.counted in
    ((working, memory_refuses left question counts (Some names) (IfSome_then left read (csv_counted question counts names c.requires.records))), λ is. cc)

pub returns-in-Ok-report_counts-clause-done : goal.returns-in-Ok-report_counts-clause-done
returns-in-Ok-report_counts-clause-done g c =
    let left = g.S.Source.left c.args.reader.now in
    let question = c.args.plan.now.question in
    let counts = c.in-Ok.counted.0 in
    let names = c.in-Ok.counted.1 in
    let greatest = c.in-Ok-report_counts.greatest in
    let (working, read) = rw (c.layout-layout.ensures, c.none-known.ensures) at c.in-Ok.ensures.counted in
    let most = IfSome_then left read (csv_greatest question counts names greatest c.requires.records c.in-Ok-report_counts.ensures.greatest) in
    subst (IsDoneFor c.args.plan.now.miner question left) (sym c.of_items.ensures) (done_for_items c.args.plan.now.miner question left greatest c.requires.items most)
