-- The names of numbers, put down one after another.
use Rattle.std.proofs.Common.{◌≡◌, ℕ, ◌+◌, ◌<◌, ◌≤◌, List, [], ◌∷◌, ◌++◌, length, take, get_or, set, arith, Option, unwrap_or, Bool, ap, ◌∙◌}
use Rattle.std.proofs.lemmas.Grind.{common_steps}
use Rattle.std.specs.Option.{is_some}
use mir.Val.{bool_byte}
use Rattle.std.specs.List.{cons_option, filter_map}
use Rattle.std.proofs.lemmas.List.{append-nil, take-set, take_more, take_more_set}
use Rattle.std.proofs.lemmas.List.Elements.{filter_map-append}

pub filter_map_more : (h : ℕ → Option ℕ) (xs : List ℕ) (i : ℕ) → i < length xs → filter_map h (take (i + 1) xs) ≡ filter_map h (take i xs) ++ cons_option (h (get_or xs i 0)) []
filter_map_more h xs i below = ap (filter_map h) (take_more xs i 0 below) ∙ filter_map-append h (take i xs) (get_or xs i 0 ∷ [])

pub one_at_most : (b : Bool) → bool_byte b ≤ 1
one_at_most h1 = grind (arith, common_steps)

-- what is put down for one item more, over which the next is put where there is nothing for it
pub put_more : (h : ℕ → Option ℕ) (xs now : List ℕ) (i len : ℕ) (o : Option ℕ) (more : ℕ) → i < length xs → len < length now → o ≡ h (get_or xs i 0) → more ≡ bool_byte (is_some o)
    → take len now ≡ filter_map h (take i xs) → take (len + more) (set now len (unwrap_or o 0)) ≡ filter_map h (take (i + 1) xs)
put_more h1 h2 h3 h4 h5 h6 h7 h8 h9 h10 h11 h12 = grind (arith, common_steps, take-set, filter_map_more, append-nil, take_more_set)
