use Rattle.std.proofs.Common.{◌+◌, [], subst}
use Rattle.std.proofs.lemmas.Result.{err_from_is_err_and}
use Rattle.basket_csv.specs.Csv.{after_header, first_number}
use Rattle.basket_csv.specs.Gathering.{HasRead}
use Rattle.basket_csv.specs.Records.{records_of}
use Rattle.basket_csv.proofs.SharedLemmas.{faultless}
use Rattle.basket_csv.proofs.shared.read_part.Goals as goal

pub returns-in_err-added-clause-fault : goal.returns-in_err-added-clause-fault
returns-in_err-added-clause-fault g c =
    let fresh = subst (λ known. HasRead g.G.Gathering.has g.G.Gathering.names_of c.args.reading known c.in_ok-part.part []) c.none.ensures c.in_ok-part.ensures.read in
    let p = err_from_is_err_and c.from_residual-in_err-added.result c.from_residual-in_err-added.ensures.1 in
    rw (p.1, p.2) (c.in_err-added.ensures.fault c.args.reading [] [] fresh)

pub returns-clause-part : goal.returns-clause-part
returns-clause-part g c =
    let fresh = subst (λ known. HasRead g.G.Gathering.has g.G.Gathering.names_of c.args.reading known c.in_ok-part.part []) c.none.ensures c.in_ok-part.ensures.read in
    let reading = c.args.reading in
    let header = c.args.header in record {
      part = c.in_ok-added.ensures.read reading [] [] fresh;
      count = c.in_ok-added.ensures.records;
      faultless = faultless (g.G.Gathering.fault_of reading.weighted) (c.in_ok-part.ensures.any_number reading.weighted) (c.args.before + first_number header)
          (after_header header (records_of reading.dialect.separator c.args.bytes.now)) (c.in_ok-added.ensures.fault reading [] [] fresh);
      whole = c.in_ok-added.ensures.whole;
    }
