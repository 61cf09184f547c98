use Rattle.std.proofs.Common.{◌≡◌, ◌∙◌, ◌++◌, ◌∷◌, [], OnOk, decimal, ap, subst}
use Rattle.csv.specs.Writing.{is_blank}
use Rattle.basket_report.specs.Table.{HasFields, writer_of}
use Rattle.basket_report.proofs.TableLemmas.{number_is_shown}
use Rattle.basket_report.proofs.table.put_number_field.Goals as goal

pub returns : goal.returns
returns c separator text fields has =
    let field : c.deref.result.now ≡ decimal c.args.number =
    c.deref.ensures.value ∙ c.in_ok-put_number.ensures ∙ ap (λ front. front ++ decimal c.args.number) c.clear.ensures.items in
    subst (λ f. OnOk c.put_field.result (HasFields c.put_field.new.writer separator text (fields ++ f ∷ []))) field
    (c.put_field.ensures separator text fields has
    (ap (λ f. is_blank (writer_of separator) (fields ++ f ∷ [])) field ∙ number_is_shown separator c.args.number fields c.ranges.number.fits))
