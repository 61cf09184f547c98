-- FIMI texts that are cut after line feeds.
use Rattle.std.specs.Prelude.{◌≡◌, ℕ, List, [], ◌∷◌, ◌++◌, Ok, map}
use Rattle.std.specs.List.{flat_map}
use Rattle.basket_read.specs.Fimi.{fimi_of}
use Rattle.basket_sets.specs.declared.weighted.Weighted.{Weighted}
use Rattle.basket_laws.specs.Parts.{whole_of}

-- the parts of a text that is cut after some of its line feeds: texts that end with one, and what comes after the last cut
abbrev pub with_line_feed : List ℕ → List ℕ
with_line_feed front = front ++ 10 ∷ []

abbrev pub parts_cut : List (List ℕ) → List ℕ → List (List ℕ)
parts_cut fronts last = map with_line_feed fronts ++ last ∷ []

-- the text itself
abbrev pub text_cut : List (List ℕ) → List ℕ → List ℕ
text_cut fronts last = flat_map with_line_feed fronts ++ last

-- each part of a FIMI input that is cut after line feeds is one, and their baskets one part after another are its baskets
abbrev pub CutsAreParts : Type 0
CutsAreParts = (fronts : List (List ℕ)) (last : List ℕ) (baskets : List Weighted) → fimi_of (text_cut fronts last) ≡ Ok baskets
    → (parts : List (List Weighted)) × (map fimi_of (parts_cut fronts last) ≡ map (λ part. Ok part) parts) × (whole_of parts ≡ baskets)
