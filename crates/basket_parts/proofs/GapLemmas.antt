-- The subsets of a set with one item less, and the first set that has a gap.
use Rattle.std.proofs.lemmas.Grind.{common_steps}
use Rattle.std.proofs.Common.{◌≡◌, ℕ, ◌+◌, ◌-◌, ◌<◌, Bool, true, false, ◌||◌, ◌&&◌, List, [], ◌∷◌, ◌++◌, map, filter, length, take, drop, get_or, ◌≤◌, Option, Some, None, refl, sym, ap, ◌∙◌, arith, suc, zero}
use Rattle.std.specs.Option.{option_map}
use Rattle.std.specs.List.{list_any, find}
use Rattle.std.proofs.Math.Bool.{or_comm, or-false}
use Rattle.std.proofs.lemmas.List.Folds.{list_any-append}
use Rattle.std.proofs.lemmas.Bool.{or_from, or_left, or_right}
use Rattle.std.proofs.lemmas.List.{at_drop_all}
use Rattle.basket_read.specs.declared.counted_line.CountedLine.{CountedLine}
use Rattle.basket_read.specs.declared.fault.ReadFault.TheVariants.{Subset}
use Rattle.basket_sets.specs.declared.minimum.Minimum.{Minimum}
use Rattle.basket_sets.specs.Order.{IsInReportOrder}
use Rattle.basket_sets.specs.Subsets.{subsets_of_size}
use Rattle.basket_parts.specs.CombinedCounts.{count_if}
use Rattle.basket_parts.specs.Gap.{is_gap, has_gap_below, first_gap, is_gap_line}
use Rattle.basket_parts.proofs.SameLemmas.{together_already}

-- ---- whether one of some subsets passes a test

any-map : (p : List ℕ → Bool) (item : ℕ) (sets : List (List ℕ)) → list_any p (map (λ set. item ∷ set) sets) ≡ list_any (λ set. p (item ∷ set)) sets
any-map p item [] = refl
any-map p item (set ∷ sets) = ap (λ t. p (item ∷ set) || t) (any-map p item sets)

too_large : (size : ℕ) (set : List ℕ) → length set < size → subsets_of_size size set ≡ []
too_large zero set h = absurd (omega arith)
too_large (suc size) [] h = refl
too_large (suc size) (item ∷ set) h =
    λ k. map (λ s. item ∷ s) (too_large size set (omega arith) k) ++ too_large (suc size) set (omega arith) k

whole : (set : List ℕ) → subsets_of_size (length set) set ≡ set ∷ []
whole [] = refl
whole (item ∷ set) = λ k. map (λ s. item ∷ s) (whole set k) ++ too_large (suc (length set)) set (omega arith) k

-- the sets without the item at each index
abbrev without_each : List ℕ → List (List ℕ)
without_each [] = []
without_each (item ∷ set) = set ∷ map (λ s. item ∷ s) (without_each set)

any_below : (p : List ℕ → Bool) (item : ℕ) (set : List ℕ) → list_any p (subsets_of_size (length set) (item ∷ set)) ≡ list_any p (without_each (item ∷ set))
any_below p item [] = refl
any_below p item (next ∷ set) =
    let with = λ (s : List ℕ). item ∷ s in
    list_any-append p (map with (subsets_of_size (length set) (next ∷ set))) (subsets_of_size (suc (length set)) (next ∷ set))
    ∙ ap (λ l. list_any p (map with (subsets_of_size (length set) (next ∷ set))) || list_any p l) (whole (next ∷ set))
    ∙ ap (λ b. list_any p (map with (subsets_of_size (length set) (next ∷ set))) || b) (or-false (p (next ∷ set)))
    ∙ ap (λ b. b || p (next ∷ set))
    (any-map p item (subsets_of_size (length set) (next ∷ set)) ∙ any_below (λ s. p (item ∷ s)) next set ∙ sym (any-map p item (without_each (next ∷ set))))
    ∙ or_comm (list_any p (map with (without_each (next ∷ set)))) (p (next ∷ set))

any_of_subsets : (p : List ℕ → Bool) (set : List ℕ) → 0 < length set → list_any p (subsets_of_size (length set - 1) set) ≡ list_any p (without_each set)
any_of_subsets p [] some = absurd (omega arith)
any_of_subsets p (item ∷ set) some = grind (arith, any_below p item set)

none_left : (p : List ℕ → Bool) (set : List ℕ) → ((k : ℕ) → k < length set → p (take k set ++ drop (suc k) set) ≡ false) → list_any p (without_each set) ≡ false
none_left p [] h = refl
none_left p (item ∷ set) h =
    or_from (p set) (list_any p (map (λ s. item ∷ s) (without_each set))) (h 0 (omega arith))
    (any-map p item (without_each set) ∙ none_left (λ s. p (item ∷ s)) set (λ k below. h (suc k) (omega arith)))

some_left : (p : List ℕ → Bool) (set : List ℕ) (k : ℕ) → k < length set → p (take k set ++ drop (suc k) set) ≡ true → list_any p (without_each set) ≡ true
some_left p [] k below h = absurd (omega arith)
some_left p (item ∷ set) zero below h = or_left (p set) (list_any p (map (λ s. item ∷ s) (without_each set))) h
some_left p (item ∷ set) (suc k) below h =
    or_right (p set) (list_any p (map (λ s. item ∷ s) (without_each set))) (any-map p item (without_each set) ∙ some_left (λ s. p (item ∷ s)) set k (omega arith) h)

-- whether the set without the item at an index shows a gap
abbrev pub gap_at : List CountedLine → ℕ → List ℕ → ℕ → Bool
gap_at lines count set index = is_gap count (take index set ++ drop (index + 1) set) (count_if lines (take index set ++ drop (index + 1) set))

pub no_gap : (lines : List CountedLine) (count : ℕ) (set : List ℕ) → 0 < length set → ((k : ℕ) → k < length set → gap_at lines count set k ≡ false) → has_gap_below lines count set ≡ false
no_gap lines count set some none =
    any_of_subsets (λ subset. is_gap count subset (count_if lines subset)) set some
    ∙ none_left (λ subset. is_gap count subset (count_if lines subset)) set
    (λ k below. let next : suc k ≡ k + 1 = omega arith in
    ap (λ n. is_gap count (take k set ++ drop n set) (count_if lines (take k set ++ drop n set))) next ∙ none k below)

pub gap_found : (lines : List CountedLine) (count : ℕ) (set : List ℕ) (index : ℕ) → index < length set → gap_at lines count set index ≡ true → has_gap_below lines count set ≡ true
gap_found lines count set index below h = grind (arith, any_of_subsets, some_left)

-- ---- the first line that passes a test

find-map : {X Y : Type 0} (f : X → Y) (p : Y → Bool) (xs : List X) → find p (map f xs) ≡ option_map f (find (λ x. p (f x)) xs)
find-map f p [] = refl
find-map f p (x ∷ xs) = let rest = find-map f p xs in grind arith

find-filter : {X : Type 0} (p q : X → Bool) (xs : List X) → find q (filter p xs) ≡ find (λ x. p x && q x) xs
find-filter p q [] = refl
find-filter p q (x ∷ xs) = let rest = find-filter p q xs in grind arith

map_found : {X Y Z : Type 0} (f : X → Y) (g : Y → Z) (found : Option X) → option_map g (option_map f found) ≡ option_map (λ x. g (f x)) found
map_found f g found = grind (arith, common_steps)

-- the first that passes stands at the index up to which none does
pub found_at : {X : Type 0} (p : X → Bool) (xs : List X) (index : ℕ) (x : X) → index < length xs → x ≡ get_or xs index x → p x ≡ true → find p (drop index xs) ≡ find p xs → find p xs ≡ Some x
found_at p xs index x below is passes before = grind (arith, common_steps)

pub found_none : {X : Type 0} (p : X → Bool) (xs : List X) (index : ℕ) → length xs ≤ index → find p (drop index xs) ≡ find p xs → find p xs ≡ None
found_none p xs index all before = sym before ∙ at_drop_all (find p) xs index all

-- the first frequent set that has a gap is that of the first line that says so
pub first_gap_line : (lines : List CountedLine) (minimum : Minimum) → IsInReportOrder (map (λ (line : CountedLine). line.set) lines)
    → option_map (λ (line : CountedLine). Subset line.line) (find (is_gap_line lines minimum) lines) ≡ first_gap lines minimum
first_gap_line lines minimum up = grind (arith, together_already lines up, find-map, map_found, find-filter)
