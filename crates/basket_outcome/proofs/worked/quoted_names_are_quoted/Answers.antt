use Rattle.std.proofs.Common.{refl}
use Rattle.csv.proofs.OnLiterals.{csv_on_literals}
use Rattle.csv.specs.Writing.{escaped, fields_text, is_blank}
use Rattle.std.specs.Fmt.{digits}
use Rattle.std.specs.Str.{is_utf8, chars}
use lib.Utf8.{encode}
use Rattle.basket_outcome.proofs.worked.quoted_names_are_quoted.Goals as goal

pub returns : goal.returns
unfolding csv_on_literals escaped fields_text is_blank digits is_utf8 chars encode
returns c = refl
