-- Parts of baskets of names.
use Rattle.std.proofs.Common.{◌≡◌, ◌∙◌, ℕ, Bool, true, List, [], ◌∷◌, ◌++◌, ap, fold, refl, sym, arith}
use Rattle.std.proofs.lemmas.Grind.{common_steps}
use Rattle.std.specs.List.{flat_map, list_all, list_any}
use Rattle.std.specs.Str.{bytes_eq}
use Rattle.std.proofs.lemmas.Bool.{and_parts, and_from, or_right}
use Rattle.std.proofs.lemmas.List.Concat.{flat_map-append}
use Rattle.std.proofs.lemmas.List.Folds.{list_all-append, list_any-append}
use Rattle.std.proofs.lemmas.List.Sums.{fold-append}
use Rattle.std.proofs.lemmas.Slice.Eq.{bytes_eq-Decides}
use Rattle.basket_csv.specs.Csv.{all_names, basket_of, baskets_in, names_in}
use Rattle.basket_names.specs.Names.{in_order, with_name}
use Rattle.basket_laws.specs.Names.{NamedPartsAreParts, all_records, named_parts}
use Rattle.basket_laws.specs.Parts.{whole_of}

-- a name is among some names, and each of some is
abbrev among : List (List ℕ) → List ℕ → Bool
among names name = list_any (bytes_eq name) names

abbrev all_among : List (List ℕ) → List (List ℕ) → Bool
all_among names list = list_all (among names) list

-- ---- names in order

known : (names : List (List ℕ)) (name : List ℕ) → among names name ≡ true → with_name names name ≡ names
known names name e = rw e refl

-- names that are there add nothing
nothing_new : (names list : List (List ℕ)) → all_among names list ≡ true → fold with_name names list ≡ names
nothing_new names [] e = refl
nothing_new names (name ∷ list) e =
    let both = and_parts (among names name) (all_among names list) e in
    ap (λ ns. fold with_name ns list) (known names name both.0) ∙ nothing_new names list both.1

-- a name stays among the names as they grow
stays_with : (names : List (List ℕ)) (other name : List ℕ) → among names name ≡ true → among (with_name names other) name ≡ true
stays_with names other name e = grind (arith, common_steps)

stays : (names list : List (List ℕ)) (name : List ℕ) → among names name ≡ true → among (fold with_name names list) name ≡ true
stays names [] name e = e
stays names (other ∷ list) name e = stays (with_name names other) list name (stays_with names other name e)

itself : (name : List ℕ) → bytes_eq name name ≡ true
itself name = (bytes_eq-Decides name name).1 refl

added : (names : List (List ℕ)) (name : List ℕ) → among (with_name names name) name ≡ true
added names name = grind (arith, common_steps, list_any-append, or_right, itself)

-- each of the names that are put in order is among them
all_there : (names list : List (List ℕ)) → all_among (fold with_name names list) list ≡ true
all_there names [] = refl
all_there names (name ∷ list) = grind (arith, common_steps, all_there (with_name names name) list, and_from, stays, added)

-- names in order are so already
in_order_with : (names : List (List ℕ)) (name : List ℕ) → in_order names ≡ names → in_order (with_name names name) ≡ with_name names name
in_order_with names name e = grind (arith, common_steps)

in_order_again : (names list : List (List ℕ)) → in_order names ≡ names → in_order (fold with_name names list) ≡ fold with_name names list
in_order_again names [] e = e
in_order_again names (name ∷ list) e = in_order_again (with_name names name) list (in_order_with names name e)

-- ---- baskets over names that are known

module _ (weighted : Bool) (names : List (List ℕ)) (ordered : in_order names ≡ names) where
  -- records whose names are all known
  of_known : (rows : List (List (List ℕ))) → all_among names (all_names weighted rows) ≡ true → baskets_in weighted names rows ≡ flat_map (basket_of weighted names) rows
  of_known rows there = grind (arith, common_steps, fold-append, nothing_new)

  of_parts : (parts : List (List (List (List ℕ)))) → all_among names (all_names weighted (all_records parts)) ≡ true
      → whole_of (named_parts weighted names parts) ≡ flat_map (basket_of weighted names) (all_records parts)
  of_parts [] there = refl
  of_parts (rows ∷ parts) there =
      let cut : all_names weighted (rows ++ all_records parts) ≡ all_names weighted rows ++ all_names weighted (all_records parts) = flat_map-append (names_in weighted) rows (all_records parts) in
      let both = and_parts (all_among names (all_names weighted rows)) (all_among names (all_names weighted (all_records parts)))
      (sym (list_all-append (among names) (all_names weighted rows) (all_names weighted (all_records parts))) ∙ ap (all_among names) (sym cut) ∙ there) in
      ap (λ baskets. baskets ++ whole_of (named_parts weighted names parts)) (of_known rows both.0)
      ∙ ap (λ baskets. flat_map (basket_of weighted names) rows ++ baskets) (of_parts parts both.1)
      ∙ sym (flat_map-append (basket_of weighted names) rows (all_records parts))

pub named_parts_are_parts : NamedPartsAreParts
named_parts_are_parts weighted parts = grind (arith, common_steps, of_parts, in_order_again, all_there)
