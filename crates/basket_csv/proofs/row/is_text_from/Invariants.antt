use Rattle.std.proofs.Common.{◌≡◌, drop}
use Rattle.basket_csv.specs.Record.{fields_of}
use Rattle.basket_csv.specs.Csv.{is_text}
use Rattle.basket_csv.proofs.row.is_text_from.Given as goal

abbrev pub invariant-loop-index : goal.invariant-loop-index
invariant-loop-index l = is_text (drop l.first (fields_of l.row)) ≡ is_text (drop l.index (fields_of l.row))
