use Rattle.std.proofs.Common.{◌≡◌, ◌+◌, ◌++◌, ◌≤◌, ℕ, List, length}
use Rattle.basket_csv.specs.declared.reading.Reading.{Reading}
use Rattle.basket_csv.specs.Csv.{fault_from}
use Rattle.basket_csv.specs.Gathering.{HasRead}
use Rattle.basket_csv.specs.Records.{records_left, last_may_go_on, goes_on, IsReading}
use Rattle.basket_csv.specs.Rows.{Rows}
use Rattle.basket_csv.proofs.collector.add_left.Given as goal

abbrev pub invariant-rows : goal.invariant-rows
invariant-rows g l = record {
  reading : IsReading l.records;
  number : l.nth + length (records_left l.records) ≡ l.first + length (records_left l.fn.records);
  later : l.first ≤ l.nth;
  goes_on : last_may_go_on (goes_on l.records) (records_left l.records) ≡ last_may_go_on (goes_on l.fn.records) (records_left l.fn.records);
  read : (reading : Reading) (known : List (List ℕ)) (rows : Rows) → HasRead g.G.Gathering.has g.G.Gathering.names_of reading known l.fn.named rows
      → (done : Rows) × HasRead g.G.Gathering.has g.G.Gathering.names_of reading known l.named done
      × (rows ++ records_left l.fn.records ≡ done ++ records_left l.records)
      × (fault_from (g.G.Gathering.fault_of reading.weighted) l.first (records_left l.fn.records) ≡ fault_from (g.G.Gathering.fault_of reading.weighted) l.nth (records_left l.records));
}

abbrev pub decreases-rows : goal.decreases-rows
decreases-rows g l = length (records_left l.records)
