use Rattle.std.proofs.Common.{◌≡◌, ◌+◌, [], sym, ap, ◌∙◌, arith}
use Rattle.std.proofs.lemmas.Result.{err_from_is_err_and}
use Rattle.basket_csv.specs.Csv.{after_header, fault_from, first_number}
use Rattle.basket_csv.specs.Records.{records_of}
use Rattle.basket_csv.proofs.read_named.read_named.Goals as goal

pub returns-in_err-add_all-clause-read : goal.returns-in_err-add_all-clause-read
returns-in_err-add_all-clause-read g c =
    let reading = c.args.reading in
    let header = reading.dialect.header in
    let fault = g.G.Gathering.fault_of reading.weighted in
    let rows = after_header header (records_of reading.dialect.separator c.args.bytes.now) in
    let number : 0 + first_number header ≡ first_number header = omega arith in
    let p = err_from_is_err_and c.from_residual-in_err-add_all.result c.from_residual-in_err-add_all.ensures.1 in
    rw (p.1, p.2) (λ other. ap (λ n. fault_from fault n rows) (sym number) ∙ c.in_err-add_all.ensures.fault reading c.args.known [] c.in_ok-named.ensures.read other)

pub returns-clause-read : goal.returns-clause-read
returns-clause-read g c =
    let reading = c.args.reading in
    let header = reading.dialect.header in
    let fault = g.G.Gathering.fault_of reading.weighted in
    let rows = after_header header (records_of reading.dialect.separator c.args.bytes.now) in
    let number : 0 + first_number header ≡ first_number header = omega arith in
    (ap (λ n. fault_from fault n rows) (sym number) ∙ c.in_ok-add_all.ensures.fault reading c.args.known [] c.in_ok-named.ensures.read, c.in_ok-add_all.ensures.read reading c.args.known [] c.in_ok-named.ensures.read)
