use Rattle.basket_csv.proofs.FieldLemmas.{trim_is}
use Rattle.basket_csv.proofs.field.trim.Goals as goal

pub returns : goal.returns
returns c =
    trim_is c.args.text.now c.as_bytes.result.now c.range_from-rest.result.now c.as_bytes-2.result.now c.range.result.now c.leading_spaces.result c.end_spaces.result
    c.as_bytes.ensures.value c.leading_spaces.ensures.value c.range_from-rest.ensures.value c.as_bytes-2.ensures.value c.end_spaces.ensures.value c.range.ensures.value
