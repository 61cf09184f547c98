-- A text that `clap` takes for the value of an option.
use Rattle.std.proofs.Common.{◌≡◌, ◌&&◌, [], ◌∷◌, Bool, true, false, not, Some, None, refl}
use Rattle.std.specs.Prelude.{◌==◌, if◌then◌else◌, option_and_then}
use Rattle.std.specs.Str.{bytes_eq}
use Rattle.clap.specs.Lexer.{long_of, long_of_rest, short_of, short_of_rest, strip_byte}
use Rattle.clap.specs.Walk.{Text}
use Rattle.basket_plan.specs.Spelling.{stands_alone}

pub record IsWord (text : Text) : Type 0 where
  pub dashes : bytes_eq text (45 ∷ 45 ∷ []) ≡ false
  pub long : long_of text ≡ None
  pub short : short_of text ≡ None

-- what a word of two bytes or more is, by whether it begins with a hyphen
record IsWordIf (hyphen : Bool) (rest : Text) : Type 0 where
  dashes : (hyphen && bytes_eq rest (45 ∷ [])) ≡ false
  long : option_and_then long_of_rest (option_and_then (strip_byte 45) (if hyphen then Some rest else None)) ≡ None
  short : option_and_then short_of_rest (if hyphen then Some rest else None) ≡ None

one_byte : (hyphen : Bool) → IsWordIf hyphen []
one_byte true = record { dashes = refl; long = refl; short = refl }
one_byte false = record { dashes = refl; long = refl; short = refl }

no_hyphen : (hyphen : Bool) (rest : Text) → not hyphen ≡ true → IsWordIf hyphen rest
no_hyphen true rest stands =
    let bad : false ≡ true = stands in
    absurd cc
no_hyphen false rest stands = record { dashes = refl; long = refl; short = refl }

pub is_word : (text : Text) → stands_alone text ≡ true → IsWord text
is_word [] stands = record { dashes = refl; long = refl; short = refl }
is_word (first ∷ []) stands =
    let is = one_byte (first == 45) in
    record { dashes = is.dashes; long = is.long; short = is.short }
is_word (first ∷ second ∷ rest) stands =
    let is = no_hyphen (first == 45) (second ∷ rest) stands in
    record { dashes = is.dashes; long = is.long; short = is.short }
