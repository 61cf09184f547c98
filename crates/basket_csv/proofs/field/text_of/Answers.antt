use Rattle.basket_csv.proofs.FieldLemmas.{text_read}
use Rattle.basket_csv.proofs.field.text_of.Goals as goal

pub returns : goal.returns
returns c = rw c.ok.ensures.value (text_read _ c.from_utf8.result c.args.field.now c.from_utf8.ensures.cases)
