use Rattle.std.proofs.Common.{ap, refl, ◌∙◌}
use Rattle.basket_csv.specs.Record.{fields_of}
use Rattle.basket_sets.specs.Database.{MOST_WEIGHT}
use Rattle.basket_sets.specs.Itemset.{rising}
use Rattle.basket_sets.specs.Number.{number_of}
use Rattle.basket_csv.specs.Field.{trimmed}
use Rattle.basket_csv.proofs.CountLemmas.{counted}
use Rattle.basket_csv.proofs.RowLemmas.{text_fault}
use Rattle.basket_csv.proofs.counts.CountsGathering.add.Goals as goal

pub returns-in_default-clause-fault : goal.returns-in_default-clause-fault
returns-in_default-clause-fault c = λ reading rows h _. text_fault c.args.nth (fields_of c.args.row.now) _ 0 c.in_default.ensures

pub returns-clause-read : goal.returns-clause-read
returns-clause-read c = λ reading rows among h.
    let old = c.args.self.now in
    let text = c.as_bytes.ensures.value ∙ c.trim.ensures ∙ ap trimmed c.in-Some.ensures.0 in
    counted old (record { alloc = old.alloc; header = old.header; lines = c.push.new.self; numbers = c.number_names.new.numbers }) reading c.args.names.now c.number_names.new.names rows (fields_of c.args.row.now)
    (record { set = c.in_ok-set.set; count = c.in-Some-parse_number.count; line = 0 }) refl
    (c.in-Some-parse_number.ensures.read ∙ ap (number_of MOST_WEIGHT) text)
    (c.in_ok-number_names.ensures.names c.if-not-branch.false)
    (c.in_ok-set.ensures.ok ∙ ap rising (c.deref.ensures.value ∙ c.in_ok-number_names.ensures.numbers c.if-not-branch.false))
    refl c.in_ok-push.ensures.items among h
