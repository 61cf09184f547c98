use Rattle.std.proofs.Common.{◌≡◌, ◌++◌, ◌∷◌, [], decimal, ◌∙◌, subst}
use Rattle.std.proofs.lemmas.Result.{on_ok_weaker}
use Rattle.csv.specs.Writing.{row_text}
use Rattle.basket_rules.specs.Confident.{rule_from}
use Rattle.basket_report.specs.Table.{HasFields, names_of, rule_record, writer_of}
use Rattle.basket_report.specs.Texts.{ratio_text}
use Rattle.basket_report.proofs.table.Table.put_rule.Goals as goal

pub returns : goal.returns
returns c separator names text has =
    let rule = rule_from c.args.sides.now c.args.counts.now in
    let count = decimal rule.count in
    let confidence = ratio_text rule.confidence in
    let lift = ratio_text rule.lift in
    let first = c.in_ok-put_number_field.ensures separator text [] has.1 in
    let second = c.in_ok-put_confidence_field.ensures separator text (count ∷ []) first (λ e. cc) in
    let third = c.in_ok-put_lift_field.ensures separator text (count ∷ confidence ∷ []) second (λ e. cc) in
    let fourth = c.in_ok-put_number_field-2.ensures separator text (count ∷ confidence ∷ lift ∷ []) third in
    let numbers = count ∷ confidence ∷ lift ∷ decimal c.len.result ∷ [] in
    let antecedent = c.in_ok-put_names.ensures separator text numbers fourth (λ e. cc) in
    let consequent = c.in_ok-put_names-2.ensures separator text (numbers ++ names_of c.args.self.now.names.now c.deref.result.now) antecedent (λ e. cc) in
    let ended = c.end_record.ensures separator text (numbers ++ names_of c.args.self.now.names.now c.deref.result.now ++ names_of c.args.self.now.names.now c.deref-2.result.now) consequent (λ e. cc) in
    let same : text ++ row_text (writer_of separator) (numbers ++ names_of c.args.self.now.names.now c.deref.result.now ++ names_of c.args.self.now.names.now c.deref-2.result.now)
    ≡ text ++ rule_record separator names rule =
    (λ i. text ++ row_text (writer_of separator) (count ∷ confidence ∷ lift ∷ decimal ((c.len.ensures ∙ c.args.sides.now.antecedent.ok.0) i) ∷ names_of (has.0 i) (c.deref.ensures.value i) ++ names_of (has.0 i) (c.deref-2.ensures.value i))) in
    on_ok_weaker c.end_record.result (λ h. (has.0, subst (λ t. HasFields c.end_record.new.writer separator t []) same h)) ended
