-- How numbers that are being read go on.
use Rattle.std.proofs.lemmas.Grind.{common_steps}
use Rattle.std.proofs.Common.{◌≡◌, ◌≢◌, ℕ, ◌≤◌, Bool, true, ltb, List, [], ◌∷◌, ◌++◌, length, cond, Option, Some, None, refl, sym, ap, ◌∙◌, subst, arith}
use Rattle.std.specs.List.{list_all}
use Rattle.basket_sets.specs.Number.{is_digit, value_of}
use Rattle.basket_read.specs.declared.numbers.Numbers.{Numbers}
use Rattle.basket_read.specs.Cut.{cut_at}
use Rattle.basket_read.specs.Fimi.{is_blank, MOST_NUMBER}
use Rattle.basket_read.specs.Numbers.{NumbersState, numbers_state, begun_of, values_of, number_ended, IsNumbersSoFar}
use Rattle.basket_read.proofs.theory.Numbers.{ended_at, takes_digits, takes_blanks}

abbrev held : Option ℕ → List ℕ → NumbersState
held begun ended = record { begun = begun; ended = ended }

-- whether a number is added changes none that has begun
pub begun_kept : (added : Bool) (begun : Option ℕ) (more ended : List ℕ) → (cond added (held begun more) (held begun ended)).begun ≡ begun
begun_kept added begun more ended = grind (arith, common_steps)

module _ (old : Numbers) (text : List ℕ) (so_far : IsNumbersSoFar old text) where
  abbrev last : List ℕ
  last = (cut_at is_blank text).last

  begun : old.begun ≡ begun_of last
  begun = ap (λ (s : NumbersState). s.begun) so_far.state

  ended : old.ended.items ≡ values_of (cut_at is_blank text).ended
  ended = ap (λ (s : NumbersState). s.ended) so_far.state

  -- ---- more digits of a number

  pub goes_on : (new : Numbers) (value longer : ℕ) (word : List ℕ) → old.begun ≡ Some value → list_all is_digit word ≡ true → longer ≤ MOST_NUMBER
      → ((prefix : List ℕ) → value_of prefix ≡ value → value_of (prefix ++ word) ≡ longer)
      → numbers_state new ≡ record { begun = Some longer; ended = old.ended.items } → IsNumbersSoFar new (text ++ word)
  goes_on new value longer word some digits below value_is new_is =
      let k = at last word (sym begun ∙ some) in
      let longer_is = value_is last k.0 in
      takes_digits new text word so_far.good digits (subst (λ v. v ≤ MOST_NUMBER) (sym longer_is) below)
      (new_is ∙ (λ i. record { begun = (ap Some (sym longer_is) ∙ sym k.1) i; ended = ended i }))
    where
      at : (before more : List ℕ) → begun_of before ≡ Some value → (value_of before ≡ value) × (begun_of (before ++ more) ≡ Some (value_of (before ++ more)))
      at before more e = grind (arith, common_steps)

  -- ---- a number where none has begun

  module _ (none : old.begun ≡ None) (word : List ℕ) (count value : ℕ) (long : length word ≡ count) (digits : list_all is_digit word ≡ true) (is : value_of word ≡ value)
      (below : value ≤ MOST_NUMBER) where
    nothing : last ≡ []
    nothing = grind (arith, common_steps)

    takes_number : (new : Numbers) → numbers_state new ≡ record { begun = begun_of word; ended = old.ended.items } → IsNumbersSoFar new (text ++ word)
    takes_number new new_is =
        takes_digits new text word so_far.good digits (subst (λ v. v ≤ MOST_NUMBER) (sym (ap (λ l. value_of (l ++ word)) nothing ∙ is)) below)
        (new_is ∙ (λ i. record { begun = begun_of (sym nothing i ++ word); ended = ended i }))

    pub begins : (new : Numbers) → numbers_state new ≡ cond (ltb 0 count) (held (Some value) old.ended.items) (numbers_state old) → IsNumbersSoFar new (text ++ word)
    begins new new_is = takes_number new (grind (arith, common_steps))

    pub adds : (new : Numbers) (blanks : List ℕ) → list_all is_blank blanks ≡ true → blanks ≢ []
        → numbers_state new ≡ cond (ltb 0 count) (held old.begun (old.ended.items ++ value ∷ [])) (numbers_state old)
        → IsNumbersSoFar new ((text ++ word) ++ blanks)
    adds new blanks b some new_is =
        let with_word = takes_number (record old { begun = begun_of word }) refl in
        let all : numbers_state new ≡ number_ended (held (begun_of word) old.ended.items) = grind (arith, common_steps) in
        takes_blanks new (text ++ word) blanks with_word.good b some (all ∙ ap number_ended with_word.state ∙ ended_at (text ++ word))
