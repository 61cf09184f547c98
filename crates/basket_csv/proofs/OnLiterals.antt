-- What the proofs of worked inputs unfold.
use Rattle.std.specs.Prelude.{⊤}
use Rattle.std.specs.Str.{is_utf8, chars}
use Rattle.csv.proofs.OnLiterals.{csv_on_literals}
use lib.Utf8.{encode}

unfoldable pub on_literals : ⊤
unfolding csv_on_literals is_utf8 chars encode
on_literals = tt
