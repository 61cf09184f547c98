use Rattle.std.proofs.Common.{◌≡◌, [], length, map}
use Rattle.csv.specs.Machine.{next_record}
use Rattle.csv.specs.declared.parser.State.TheVariants as st
use Rattle.basket_csv.specs.Record.{config_of}
use Rattle.basket_csv.proofs.record.take_fields.Given as goal

abbrev pub invariant-fields : goal.invariant-fields
invariant-fields l =
    next_record (config_of l.separator) st.StartRecord [] [] l.text ≡ next_record (config_of l.separator) st.StartField (map (λ field. field.now) l.fields.items) [] l.rest

abbrev pub decreases-fields : goal.decreases-fields
decreases-fields l = length l.rest
