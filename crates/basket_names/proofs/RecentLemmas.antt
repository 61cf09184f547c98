-- Names that are kept with their numbers.
use Rattle.std.proofs.Common.{◌≡◌, ℕ, List, arith}
use Rattle.std.proofs.lemmas.Grind.{common_steps}
use Rattle.std.specs.Str.{IsUtf8}
use Rattle.std.proofs.lemmas.List.Elements.{All-weaker}
use Rattle.std.proofs.lemmas.Str.{is_utf8-from_IsUtf8}
use Rattle.basket_names.specs.declared.recent.Recent.{Recent}
use Rattle.basket_names.specs.Names.{number_in, with_name, IsKnown}
use Rattle.basket_names.specs.Recent.{HasKnown, KeepsKnown}
use Rattle.basket_names.proofs.theory.Names.{among_more, among_with, known_name, number_more}

-- a name that was just numbered is known
pub numbered_known : (old new : List (List ℕ)) (name : List ℕ) (number : ℕ) → IsUtf8 name → new ≡ with_name old name → number ≡ number_in new name → IsKnown new name number
numbered_known old new name number text more is = grind (arith, common_steps, among_with, is_utf8-from_IsUtf8, known_name)

-- a known name stays so, with its number
known_more : (names : List (List ℕ)) (other name : List ℕ) (number : ℕ) → IsKnown names name number → IsKnown (with_name names other) name number
known_more names other name number h = grind (arith, common_steps, among_with, known_name, among_more, number_more)

-- and so do all that are kept
pub kept_more : (names : List (List ℕ)) (other : List ℕ) (recent : Recent) → KeepsKnown names recent → KeepsKnown (with_name names other) recent
kept_more names other recent h =
    All-weaker (λ bucket. HasKnown names bucket.newer × HasKnown names bucket.older) (λ bucket. HasKnown (with_name names other) bucket.newer × HasKnown (with_name names other) bucket.older)
    (λ bucket both. (λ whole. known_more names other _ bucket.newer.number (both.0 whole), λ whole. known_more names other _ bucket.older.number (both.1 whole)))
    recent.buckets.items h
