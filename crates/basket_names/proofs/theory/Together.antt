-- The names of parts, numbered together.
use Rattle.std.proofs.Common.{◌≡◌, ℕ, zero, suc, ◌+◌, Bool, true, false, ltb, List, [], ◌∷◌, ◌++◌, map, length, fold, get_or, refl, sym, ap, ◌∙◌, subst, append_assoc, inl, inr, arith}
use Rattle.std.proofs.lemmas.Grind.{common_steps}
use Rattle.std.specs.List.{list_all, list_any, position_or_len, range_with_len}
use Rattle.std.specs.Str.{bytes_eq}
use Rattle.std.proofs.lemmas.Bool.{and_parts, and_from, cases_Bool, lt-ltb, or_left, or_right}
use Rattle.std.proofs.lemmas.List.{length-append, map-append}
use Rattle.std.proofs.lemmas.List.Folds.{list_any-append}
use Rattle.std.proofs.lemmas.List.Sums.{fold-append}
use Rattle.std.proofs.lemmas.Slice.Eq.{bytes_eq-Decides}
use Rattle.basket_names.specs.Names.{with_name, in_order, number_in, is_among, are_among}
use Rattle.basket_names.proofs.theory.Names.{known_name, among_with, among_all, at_any, equal_bytes, number_in_all, number_stays, numbers_stay}

-- ---- names that were numbered apart

-- a name of some that were added is among all
among_added : (names others : List (List ℕ)) (name : List ℕ) → is_among others name ≡ true → is_among (fold with_name names others) name ≡ true
among_added names [] name e = absurd cc
among_added names (other ∷ others) name e = grind (arith, common_steps, among_added (with_name names other) others name, bytes_eq-Decides, among_all, among_with)

add_one : (names known : List (List ℕ)) (name : List ℕ) → fold with_name names (with_name known name) ≡ with_name (fold with_name names known) name
add_one names known name = grind (arith, common_steps, known_name, among_added, fold-append)

add_all : (names known others : List (List ℕ)) → fold with_name names (fold with_name known others) ≡ fold with_name (fold with_name names known) others
add_all names known [] = refl
add_all names known (name ∷ others) = add_all names (with_name known name) others ∙ ap (λ ns. fold with_name ns others) (add_one names known name)

-- names in their order are added as they are
pub add_in_order : (names others : List (List ℕ)) → fold with_name names (in_order others) ≡ fold with_name names others
add_in_order names others = add_all names [] others

-- ---- their numbers among all

module _ (all : List (List ℕ)) where
  number_at : (own : List (List ℕ)) (name : List ℕ) → is_among own name ≡ true → get_or (map (number_in all) own) (number_in own name) 0 ≡ number_in all name
  number_at [] name e = absurd cc
  number_at (other ∷ own) name e = grind (arith, common_steps, number_at own name, bytes_eq-Decides)

  -- the numbers of names by those of the names that they were numbered among
  pub numbers_at : (own some : List (List ℕ)) → are_among own some ≡ true → map (λ number. get_or (map (number_in all) own) number 0) (map (number_in own) some) ≡ map (number_in all) some
  numbers_at own [] e = refl
  numbers_at own (name ∷ some) e =
      let h = and_parts (is_among own name) (are_among own some) e in
      ap (λ n. n ∷ map (λ number. get_or (map (number_in all) own) number 0) (map (number_in own) some)) (number_at own name h.0)
      ∙ ap (λ ns. number_in all name ∷ ns) (numbers_at own some h.1)

-- each is below how many names there are
pub numbers_below : (own some : List (List ℕ)) → are_among own some ≡ true → list_all (λ number. ltb number (length own)) (map (number_in own) some) ≡ true
numbers_below own [] e = refl
numbers_below own (name ∷ some) e =
    let h = and_parts (is_among own name) (are_among own some) e in
    and_from (ltb (number_in own name) (length own)) _ (lt-ltb (number_in own name) (length own) (at_any (bytes_eq name) own h.0)) (numbers_below own some h.1)

-- ---- one name more

-- names are among all even if more were added
pub among_more_names : (names others some : List (List ℕ)) → are_among names some ≡ true → are_among (fold with_name names others) some ≡ true
among_more_names names others [] e = refl
among_more_names names others (name ∷ some) e =
    let h = and_parts (is_among names name) (are_among names some) e in
    and_from (is_among (fold with_name names others) name) _ (among_all names others name h.0) (among_more_names names others some h.1)

-- the first of the names that are left is numbered, and the others will be
pub number_first : (now new : List (List ℕ)) (name : List ℕ) (rest : List (List ℕ)) (numbers more : List ℕ) (number : ℕ)
    → new ≡ with_name now name → number ≡ number_in new name → more ≡ numbers ++ number ∷ []
    → (fold with_name new rest ≡ fold with_name now (name ∷ rest))
    × (more ++ map (number_in (fold with_name new rest)) rest ≡ numbers ++ map (number_in (fold with_name now (name ∷ rest))) (name ∷ rest))
number_first now new name rest numbers more number with number_is all = grind (arith, common_steps, among_with, number_in_all)

-- names that are among some are among all if these were added
pub among_added_all : (names others some : List (List ℕ)) → are_among others some ≡ true → are_among (fold with_name names others) some ≡ true
among_added_all names others [] e = refl
among_added_all names others (name ∷ some) e =
    let h = and_parts (is_among others name) (are_among others some) e in
    and_from (is_among (fold with_name names others) name) _ (among_added names others name h.0) (among_added_all names others some h.1)

-- ---- the numbers of all names

after_some : (before names : List (List ℕ)) → are_among (before ++ names) names ≡ true
after_some before [] = refl
after_some before (name ∷ names) =
    and_from (is_among (before ++ name ∷ names) name) _ (grind (arith, common_steps, list_any-append, or_right, or_left, equal_bytes))
    (ap (λ all. are_among all names) (sym (append_assoc before (name ∷ []) names)) ∙ after_some (before ++ name ∷ []) names)

-- all names are among themselves
pub self_among : (names : List (List ℕ)) → are_among names names ≡ true
self_among names = after_some [] names

not_any : {X : Type 0} (p : X → Bool) (xs : List X) → list_any p xs ≡ false → position_or_len p xs ≡ length xs
not_any p [] e = refl
not_any p (x ∷ xs) e = grind (arith, common_steps, not_any p xs)

range_more : (a n : ℕ) → range_with_len a n ++ (a + n) ∷ [] ≡ range_with_len a (n + 1)
range_more a zero = let same : a + 0 ≡ a = omega arith in ap (λ k. k ∷ []) same
range_more a (suc n) =
    let same : a + suc n ≡ a + 1 + n = omega arith in
    let long : suc (n + 1) ≡ suc n + 1 = omega arith in
    ap (λ k. a ∷ range_with_len (a + 1) n ++ k ∷ []) same ∙ ap (λ r. a ∷ r) (range_more (a + 1) n) ∙ ap (range_with_len a) long

abbrev AreCounted : List (List ℕ) → Type 0
AreCounted names = map (number_in names) names ≡ range_with_len 0 (length names)

counted_more : (names : List (List ℕ)) (name : List ℕ) → AreCounted names → AreCounted (with_name names name)
counted_more names name h = elim (cases_Bool (is_among names name)) [
  | inl known ↦ subst AreCounted (sym (known_name names name known)) h
  | inr new ↦
      let grown : with_name names name ≡ names ++ name ∷ [] = rw new refl in
      let stay : map (number_in (names ++ name ∷ [])) names ≡ map (number_in names) names = ap (λ n. map (number_in n) names) (sym grown) ∙ numbers_stay names (name ∷ []) names (self_among names) in
      let last : number_in (names ++ name ∷ []) name ≡ 0 + length names = ap (λ n. number_in n name) (sym grown) ∙ number_stays names name ∙ not_any (bytes_eq name) names new ∙ omega arith in
      let long : length (names ++ name ∷ []) ≡ length names + 1 = length-append names (name ∷ []) in
      subst AreCounted (sym grown)
      (map-append (number_in (names ++ name ∷ [])) names (name ∷ []) ∙ ap (λ n. n ++ number_in (names ++ name ∷ []) name ∷ []) (stay ∙ h) ∙ ap (λ k. range_with_len 0 (length names) ++ k ∷ []) last
      ∙ range_more 0 (length names) ∙ ap (range_with_len 0) (sym long))
]

counted_all : (names some : List (List ℕ)) → AreCounted names → AreCounted (fold with_name names some)
counted_all names [] h = h
counted_all names (name ∷ some) h = counted_all (with_name names name) some (counted_more names name h)

-- names in the order of their first appearance have the numbers from 0 on
pub numbers_in_order : (some : List (List ℕ)) → map (number_in (in_order some)) (in_order some) ≡ range_with_len 0 (length (in_order some))
numbers_in_order some = counted_all [] some refl
