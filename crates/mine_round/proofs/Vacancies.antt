-- A list in which no place is found vacant has no vacant place.
use Rattle.std.proofs.Common.{◌≡◌, ℕ, ◌≤◌, Bool, false, true≢false, if◌then◌else◌, nat_lt, List, [], ◌∷◌, ◌++◌, length, length-append, get_or, Option, Some, None, refl, ap, sym, ◌∙◌, arith}
use Rattle.std.proofs.lemmas.Grind.{common_steps}
use Rattle.std.specs.Prelude.{is_none, position}
use Rattle.std.specs.List.{position_or_len}
use Rattle.std.proofs.lemmas.Bool.Decides.{nat_tests}
use Rattle.std.proofs.lemmas.List.Sums.{fails_before_first}

found_or_not : (b : Bool) (n : ℕ) → (if b then Some n else None) ≡ None → b ≡ false
found_or_not h1 h2 h3 = grind (arith, common_steps)

module _ {T : Type 0} where
  vacant_there : (xs ys : List (Option T)) → get_or (xs ++ None ∷ ys) (length xs) None ≡ None
  vacant_there [] ys = refl
  vacant_there (x ∷ xs) ys = vacant_there xs ys

  pub none_vacant : (xs ys : List (Option T)) → position is_none (xs ++ None ∷ ys) ≡ None → ⊥
  none_vacant xs ys e =
      let all : List (Option T) = xs ++ None ∷ ys in
      let past : nat_lt (position_or_len is_none all) (length all) ≡ false = found_or_not (nat_lt (position_or_len is_none all) (length all)) (position_or_len is_none all) e in
      let far : length all ≤ position_or_len is_none all = grind (arith, nat_tests) in
      let long = length-append xs (None ∷ ys) in
      true≢false (sym (ap is_none (vacant_there xs ys)) ∙ fails_before_first is_none all (length xs) None (omega arith))
