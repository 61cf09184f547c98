-- Which words of a command line are about looking at a file, and not about mining it.
use Rattle.std.specs.Prelude.{List, [], ◌∷◌, ◌&&◌, ◌||◌, Bool, false, codes, ℕ}
use Rattle.std.specs.Str.{bytes_eq}

-- whether a command is `look` or `pairs`
abbrev pub is_look : List ℕ → Bool
is_look command = bytes_eq command (codes "look") || bytes_eq command (codes "pairs")

-- whether the word behind `help` is one of these, and the last
abbrev pub is_help_of_look : List (List ℕ) → Bool
is_help_of_look [] = false
is_help_of_look (command ∷ []) = is_look command
is_help_of_look (command ∷ next ∷ rest) = false

-- whether words begin with `look` or `pairs`, or are `help look` or `help pairs`
abbrev pub is_about_look : List (List ℕ) → Bool
is_about_look [] = false
is_about_look (first ∷ rest) = is_look first || bytes_eq first (codes "help") && is_help_of_look rest
