use Rattle.std.proofs.Common.{◌++◌, ◌∷◌, [], decimal, ap, ◌∙◌}
use Rattle.std.proofs.lemmas.Result.{on_ok_weaker}
use Rattle.basket_rules.specs.Confident.{confidence_of, lift_of, rule_from}
use Rattle.basket_report.specs.Lines.{ratios_text, rule_line, sides_text}
use Rattle.basket_report.proofs.TextLemmas.{rule_parts}
use Rattle.basket_report.proofs.lines.Lines.put_rule.Goals as goal

pub returns : goal.returns
returns c =
    let counts = c.args.counts.now in
    let sides = sides_text c.args.sides.now.antecedent.items c.args.sides.now.consequent.items in
    let ratios = ratios_text (confidence_of counts) (lift_of counts) in
    on_ok_weaker c.put_ratios.result (λ written. written ∙ ap (λ l. l ++ (32 ∷ ratios ++ 10 ∷ [])) (c.in_ok-put_count.ensures
    ∙ (λ i. c.in_ok-put_sides.ensures i ++ (40 ∷ decimal (c.set.ensures i) ++ 41 ∷ []))) ∙ rule_parts c.self.inside.text.items sides (decimal counts.count) ratios
    ∙ ap (λ l. l ++ rule_line (rule_from c.args.sides.now counts)) c.self.view_is) c.put_ratios.ensures
