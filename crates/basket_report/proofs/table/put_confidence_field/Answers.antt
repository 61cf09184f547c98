use Rattle.std.proofs.Common.{◌≡◌, ◌∙◌, ◌++◌, ◌∷◌, [], OnOk, ap, subst}
use Rattle.basket_rules.specs.Confident.{confidence_of}
use Rattle.basket_report.specs.Table.{HasFields, writer_of}
use Rattle.basket_report.specs.Texts.{ratio_text}
use Rattle.basket_report.proofs.TableLemmas.{later_shows}
use Rattle.basket_report.proofs.table.put_confidence_field.Goals as goal

pub returns : goal.returns
returns c separator text fields has some =
    let field : c.deref.result.now ≡ ratio_text (confidence_of c.args.counts.now) =
    c.deref.ensures.value ∙ c.in_ok-put_confidence.ensures ∙ ap (λ front. front ++ ratio_text (confidence_of c.args.counts.now)) c.clear.ensures.items in
    subst (λ f. OnOk c.put_field.result (HasFields c.put_field.new.writer separator text (fields ++ f ∷ []))) field
    (c.put_field.ensures separator text fields has (later_shows (writer_of separator) fields c.deref.result.now some))
