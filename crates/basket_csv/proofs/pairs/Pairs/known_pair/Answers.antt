use Rattle.std.proofs.Common.{sym, ap, ◌∙◌}
use Rattle.std.specs.Str.{is_utf8}
use Rattle.basket_csv.specs.Record.{fields_of}
use Rattle.basket_csv.proofs.PairLemmas.{no_fault}
use Rattle.basket_csv.proofs.RowLemmas.{field_found}
use Rattle.basket_csv.proofs.pairs.Pairs.known_pair.Goals as goal

pub returns-clause-fault : goal.returns-clause-fault
returns-clause-fault c = λ nth.
    let fields = fields_of c.args.row.now in
    let id = field_found fields 0 c.in_ok-id.id.now c.in_ok-id.ensures in
    no_fault nth fields (sym c.len.ensures ∙ c.if-len-ne2.false) (ap is_utf8 id ∙ c.in_ok-index.ensures.text) c.in_ok-number.ensures.known.text
