use Rattle.std.proofs.Common.{refl}
use Rattle.csv.proofs.OnLiterals.{csv_on_literals}
use Rattle.std.specs.Str.{is_utf8, chars}
use lib.Utf8.{encode}
use Rattle.basket_outcome.proofs.worked.first_fault_is_told.Goals as goal

pub returns-clause-byte : goal.returns-clause-byte
unfolding csv_on_literals is_utf8 chars encode
returns-clause-byte c = refl

pub returns-clause-no_text : goal.returns-clause-no_text
unfolding csv_on_literals is_utf8 chars encode
returns-clause-no_text c = refl
