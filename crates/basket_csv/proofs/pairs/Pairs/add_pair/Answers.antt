use Rattle.basket_csv.proofs.PairLemmas.{paired}
use Rattle.basket_csv.proofs.pairs.Pairs.add_pair.Goals as goal

pub returns-clause-read : goal.returns-clause-read
returns-clause-read c = λ pairs among h.
    paired c.args.self.now (record { alloc = c.args.self.now.alloc; ids = c.number-2.new.self; groups = c.add_number.new.groups }) c.args.names.now c.number.new.self pairs c.args.id.now c.args.name.now
    c.in_ok-number.number c.in_ok-index.index c.in_ok-number.ensures.names c.in_ok-number.ensures.number c.in_ok-index.ensures.ids c.in_ok-index.ensures.number c.in_ok-add_number.ensures among h
