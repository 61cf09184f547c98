-- Options whose values are words of their own.
use Rattle.std.specs.Prelude.{◌≡◌, ◌==◌, Bool, true, not, List, [], ◌∷◌, ◌++◌, codes}
use Rattle.clap.specs.Words.{Text}
use Rattle.basket_plan.specs.Command.{invocation_of_words}

-- an option with its value in one word, `--name=value`
abbrev pub option_word : Text → Text → Text
option_word name value = codes "--" ++ name ++ 61 ∷ value

-- a text that stands as a word for an option's value: it is `-`, or it doesn't begin with a hyphen
abbrev pub stands_alone : Text → Bool
stands_alone [] = true
stands_alone (first ∷ []) = true
stands_alone (first ∷ second ∷ rest) = not (first == 45)

-- after some words an option asks for the same whether its value is in its word or in the next
abbrev pub IsSpelledFreely : List Text → Text → Type 0
IsSpelledFreely before name = (value : Text) → stands_alone value ≡ true
    → invocation_of_words (before ++ (codes "--" ++ name) ∷ value ∷ []) ≡ invocation_of_words (before ++ option_word name value ∷ [])
