use Rattle.basket_csv.specs.Record.{fields_of}
use Rattle.basket_csv.proofs.GatheringLemmas.{known_among, record_added}
use Rattle.basket_csv.proofs.gathering.Named.add.Goals as goal

pub returns-clause-read : goal.returns-clause-read
returns-clause-read g c = λ reading known rows h.
    let has = g.G.Gathering.has in
    let names_of = g.G.Gathering.names_of in
    record_added has names_of reading known c.args.self.now _ rows (fields_of c.args.row.now) c.add.result h (c.add.ensures.names reading rows h.gathered) (c.add.ensures.read reading rows (known_among has names_of reading known c.args.self.now rows h) h.gathered)
