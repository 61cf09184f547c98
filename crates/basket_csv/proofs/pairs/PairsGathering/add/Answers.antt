use Rattle.std.proofs.Common.{◌≡◌, refl, ap, eqb, fold, length, subst, sym, ◌∙◌}
use Rattle.std.proofs.lemmas.Result.{on_ok_weaker}
use Rattle.basket_names.specs.Names.{are_among, with_name}
use Rattle.basket_csv.specs.Record.{fields_of}
use Rattle.basket_csv.specs.Csv.{field_in, pairs_of}
use Rattle.basket_csv.specs.Field.{trimmed}
use Rattle.basket_csv.specs.Pairs.{HasPairs}
use Rattle.basket_csv.proofs.RowLemmas.{nil_test, text_fault}
use Rattle.basket_csv.proofs.PairLemmas.{known_names, known_paired, names_of_rows, no_pair, one_name, pair_added}
use Rattle.basket_csv.proofs.pairs.PairsGathering.add.Goals as goal

pub returns-in-Some-clause-fault : goal.returns-in-Some-clause-fault
returns-in-Some-clause-fault c = λ reading rows h. c.in-Some.ensures.fault c.args.nth

pub returns-in-Some-clause-names : goal.returns-in-Some-clause-names
returns-in-Some-clause-names c = λ reading rows h. known_names c.args.self.now.ids c.args.names.now (fields_of c.args.row.now) c.in-Some.index c.in-Some.number c.in-Some.ensures.known

pub returns-in-Some-clause-read : goal.returns-in-Some-clause-read
returns-in-Some-clause-read c = λ reading rows among h.
    let pairs = c.args.self.now in
    known_paired pairs (record { alloc = pairs.alloc; ids = pairs.ids; groups = c.add_number.new.groups }) c.args.names.now rows (fields_of c.args.row.now)
    c.in-Some.index c.in-Some.number refl c.in_ok-add_number.ensures c.in-Some.ensures.known among h

pub returns-in_default-text_at-clause-fault : goal.returns-in_default-text_at-clause-fault
returns-in_default-text_at-clause-fault c = λ reading rows h _. text_fault c.args.nth (fields_of c.args.row.now) _ 0 c.in_default-text_at.ensures

pub returns-in_default-text_at-2-clause-fault : goal.returns-in_default-text_at-2-clause-fault
returns-in_default-text_at-2-clause-fault c = λ reading rows h _. text_fault c.args.nth (fields_of c.args.row.now) _ 1 c.in_default-text_at-2.ensures

pub returns-then-is_empty-clause-names : goal.returns-then-is_empty-clause-names
returns-then-is_empty-clause-names c = λ reading rows h.
    let fields = fields_of c.args.row.now in
    let name : c.trim-name.result.now ≡ trimmed (field_in fields 1) = c.trim-name.ensures ∙ ap trimmed c.in-Some-text_at-2.ensures.0 in
    let nil = nil_test (trimmed (field_in fields 1)) c.is_empty.result (c.is_empty.ensures ∙ ap (λ n. eqb (length n) 0) name) in
    sym (ap (fold with_name c.args.names.now) (no_pair rows fields (nil ∙ c.if-is_empty.true)).1)

pub returns-then-is_empty-clause-read : goal.returns-then-is_empty-clause-read
returns-then-is_empty-clause-read c = λ reading rows among h.
    let fields = fields_of c.args.row.now in
    let name : c.trim-name.result.now ≡ trimmed (field_in fields 1) = c.trim-name.ensures ∙ ap trimmed c.in-Some-text_at-2.ensures.0 in
    let nil = nil_test (trimmed (field_in fields 1)) c.is_empty.result (c.is_empty.ensures ∙ ap (λ n. eqb (length n) 0) name) in
    subst (HasPairs c.args.self.now c.args.names.now) (sym (no_pair rows fields (nil ∙ c.if-is_empty.true)).0) h

pub returns-clause-names : goal.returns-clause-names
returns-clause-names c = λ reading rows h.
    let fields = fields_of c.args.row.now in
    let name : c.trim-name.result.now ≡ trimmed (field_in fields 1) = c.trim-name.ensures ∙ ap trimmed c.in-Some-text_at-2.ensures.0 in
    let nil = nil_test (trimmed (field_in fields 1)) c.is_empty.result (c.is_empty.ensures ∙ ap (λ n. eqb (length n) 0) name) in
    on_ok_weaker c.add_pair.result (λ e. e ∙ ap (with_name c.args.names.now) name ∙ ap (fold with_name c.args.names.now) (sym (one_name fields (nil ∙ c.if-is_empty.false)))) c.add_pair.ensures.names

pub returns-clause-read : goal.returns-clause-read
returns-clause-read c = λ reading rows among h.
    let fields = fields_of c.args.row.now in
    let name : c.trim-name.result.now ≡ trimmed (field_in fields 1) = c.trim-name.ensures ∙ ap trimmed c.in-Some-text_at-2.ensures.0 in
    let nil = nil_test (trimmed (field_in fields 1)) c.is_empty.result (c.is_empty.ensures ∙ ap (λ n. eqb (length n) 0) name) in
    pair_added c.add_pair.new.self c.add_pair.new.names rows fields c.trim.result.now c.trim-name.result.now c.add_pair.result (c.trim.ensures ∙ ap trimmed c.in-Some-text_at.ensures.0) name
    (nil ∙ c.if-is_empty.false) (c.add_pair.ensures.read (pairs_of rows) (ap (are_among c.args.names.now) (sym (names_of_rows rows)) ∙ among) h)
