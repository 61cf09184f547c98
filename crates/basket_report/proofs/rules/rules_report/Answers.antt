use Rattle.std.proofs.lemmas.Result.{IfOk-weaker}
use Rattle.basket_report.specs.Style.{wording_of}
use Rattle.basket_report.proofs.RuleLemmas.{part_texts, report_of_baskets}
use Rattle.basket_report.proofs.rules.rules_report.Goals as goal

pub returns-clause-lists : goal.returns-clause-lists
returns-clause-lists g c =
    IfOk-weaker c.by_pieces.result _ _
    (λ texts has. part_texts (wording_of c.args.style) c.args.frequent.now c.args.confidence c.part_count-parts.result texts.items c.part_count-parts.ensures.0 has) c.by_pieces.ensures

pub returns-clause-baskets : goal.returns-clause-baskets
returns-clause-baskets g c =
    IfOk-weaker c.by_pieces.result _ _
    (λ texts has. report_of_baskets (wording_of c.args.style) c.args.frequent.now c.args.confidence _
    (part_texts (wording_of c.args.style) c.args.frequent.now c.args.confidence c.part_count-parts.result texts.items c.part_count-parts.ensures.0 has)) c.by_pieces.ensures
