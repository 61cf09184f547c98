use Rattle.std.proofs.Common.{◌≡◌, ℕ, length}
use Rattle.csv.specs.Reading.{records}
use Rattle.basket_csv.specs.Record.{config_of}
use Rattle.basket_csv.specs.Records.{records_of}
use Rattle.basket_csv.proofs.record.next_record.Given as goal

abbrev pub invariant-bytes : goal.invariant-bytes
invariant-bytes l = (separator : ℕ) → records_of separator l.bytes ≡ records (config_of separator) l.rest

abbrev pub decreases-bytes : goal.decreases-bytes
decreases-bytes l = length l.rest
