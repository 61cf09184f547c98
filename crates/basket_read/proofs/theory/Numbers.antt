-- How blanks and numbers go on.
use Rattle.std.proofs.lemmas.Grind.{common_steps}
use Rattle.std.proofs.Common.{◌≡◌, ◌≢◌, ℕ, ◌≤◌, Bool, true, false, ◌&&◌, leb, eqb, List, [], ◌∷◌, ◌++◌, None, refl, sym, ap, ◌∙◌, subst, inl, append_assoc, arith}
use Rattle.std.specs.List.{list_all}
use Rattle.std.proofs.lemmas.Bool.{and_parts, ne_eqb, false≢true}
use Rattle.basket_sets.specs.Itemset.{rising}
use Rattle.basket_sets.specs.Number.{is_digit, value_of}
use Rattle.basket_sets.proofs.theory.Members.{Member}
use Rattle.basket_sets.proofs.theory.Rising.{Member-into_rising, rising-rises, rising-rising}
use Rattle.basket_read.specs.declared.numbers.Numbers.{Numbers}
use Rattle.basket_read.specs.Cut.{cut_at}
use Rattle.basket_read.specs.Fimi.{is_blank, are_numbers, numbers_of, fault_at, MOST_NUMBER}
use Rattle.basket_read.specs.Numbers.{numbers_state, begun_of, values_of, numbers_at, number_ended, IsNumbersSoFar}
use Rattle.basket_read.proofs.theory.Cuts.{cut, cut_on, cut_on_by}
use Rattle.basket_read.proofs.theory.Grammar as grammar

-- ---- bytes

pub digit_is_no_blank : (byte : ℕ) → is_digit byte ≡ true → is_blank byte ≡ false
digit_is_no_blank byte d = grind (arith, common_steps)

-- ---- digits up to a bound

abbrev pub within : ℕ → List ℕ → Bool
within bound word = list_all is_digit word && leb (value_of word) bound

-- ---- parts between blanks

-- once the last number has ended, all have
pub ended_at : (text : List ℕ) → number_ended (numbers_at text) ≡ record { begun = None; ended = numbers_of text }
ended_at text = grind (arith, common_steps)

-- ---- a byte that can't stand there

pub refuses_other : (text : List ℕ) (byte : ℕ) → is_digit byte ≡ false → is_blank byte ≡ false → are_numbers (text ++ byte ∷ []) ≡ false
refuses_other text byte d b = grind (arith, common_steps)

-- ---- bytes that can

pub takes_digits : (numbers : Numbers) (text word : List ℕ) → are_numbers text ≡ true → list_all is_digit word ≡ true → value_of ((cut_at is_blank text).last ++ word) ≤ MOST_NUMBER
    → numbers_state numbers ≡ record { begun = begun_of ((cut_at is_blank text).last ++ word); ended = values_of (cut_at is_blank text).ended } → IsNumbersSoFar numbers (text ++ word)
takes_digits numbers text word good digits below is =
    let joined = cut_on_by is_blank is_digit text word digit_is_no_blank digits in grind (arith, common_steps)

takes_blank : (numbers : Numbers) (text : List ℕ) (byte : ℕ) → are_numbers text ≡ true → is_blank byte ≡ true → numbers_state numbers ≡ record { begun = None; ended = numbers_of text }
    → IsNumbersSoFar numbers (text ++ byte ∷ [])
takes_blank numbers text byte good b is = grind (arith, common_steps)

pub takes_blanks : (numbers : Numbers) (text blanks : List ℕ) → are_numbers text ≡ true → list_all is_blank blanks ≡ true → blanks ≢ []
    → numbers_state numbers ≡ record { begun = None; ended = numbers_of text } → IsNumbersSoFar numbers (text ++ blanks)
takes_blanks numbers text [] good b some is = absurd (some refl)
takes_blanks numbers text (byte ∷ []) good b some is = takes_blank numbers text byte good (and_parts (is_blank byte) true b).0 is
takes_blanks numbers text (byte ∷ other ∷ blanks) good b some is =
    let parts = and_parts (is_blank byte) (list_all is_blank (other ∷ blanks)) b in
    let one = takes_blank numbers text byte good parts.0 is in
    subst (IsNumbersSoFar numbers) (append_assoc text (byte ∷ []) (other ∷ blanks))
    (takes_blanks numbers (text ++ byte ∷ []) (other ∷ blanks) one.good parts.1 (λ e. cc)
    (is ∙ ap number_ended (sym is) ∙ ap number_ended one.state ∙ ended_at (text ++ byte ∷ [])))

-- ---- prefixes

pub numbers_prefix : (text : List ℕ) (byte : ℕ) → are_numbers (text ++ byte ∷ []) ≡ true → are_numbers text ≡ true
numbers_prefix text byte good = grind (arith, common_steps)

-- numbers join the last part of a list that is cut at another byte
pub numbers_joined : (k : ℕ) → is_digit k ≡ false → is_blank k ≡ false → (xs run : List ℕ) → are_numbers ((cut_at (λ byte. eqb byte k) xs).last ++ run) ≡ true
    → cut_at (λ byte. eqb byte k) (xs ++ run) ≡ cut (cut_at (λ byte. eqb byte k) xs).ended ((cut_at (λ byte. eqb byte k) xs).last ++ run)
numbers_joined k d b =
    cut_on (λ byte. eqb byte k) are_numbers (grammar.line_prefixes_are_good are_numbers fault_at refl numbers_prefix)
    (λ text byte h. ne_eqb byte k (λ e. false≢true (sym (refuses_other text k d b) ∙ ap (λ x. are_numbers (text ++ x ∷ [])) (sym e) ∙ h)))

-- ---- sets of numbers

-- a set of some numbers is not empty
pub rising_nonempty : (numbers : List ℕ) → numbers ≢ [] → rising numbers ≢ []
rising_nonempty [] some e = some refl
rising_nonempty (number ∷ numbers) some e = absurd (subst (Member number) e (Member-into_rising (number ∷ numbers) number (inl refl)))

pub rising_again : (numbers : List ℕ) → rising (rising numbers) ≡ rising numbers
rising_again numbers = rising-rising (rising numbers) (rising-rises numbers)
