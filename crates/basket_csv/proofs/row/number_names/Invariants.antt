use Rattle.basket_csv.specs.Record.{fields_of}
use Rattle.basket_csv.proofs.RowLemmas.{NumbersUpTo}
use Rattle.basket_csv.proofs.row.number_names.Given as goal

abbrev pub invariant-loop-index : goal.invariant-loop-index
invariant-loop-index l = NumbersUpTo (fields_of l.row) l.first l.index l.fn.names l.names l.numbers.items
