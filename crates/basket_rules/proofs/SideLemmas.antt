-- The items of a side by the bits of its word, from the lowest on, and both sides put down index by index.
use Rattle.std.proofs.Common.{◌≡◌, ◌≢◌, ℕ, ◌+◌, ◌-◌, ◌*◌, ◌%◌, ◌^◌, ◌<◌, ◌≤◌, Bool, true, false, not, cond, eqb, w64, List, [], ◌∷◌, length, take, set, get_or, bit_and, refl, sym, ap, ◌∙◌, inl, inr, arith, zero, suc}
use Rattle.std.proofs.lemmas.Grind.{common_steps}
use Rattle.std.specs.Int.{bit_at, bit_not, trailing_zeros}
use Rattle.std.specs.Int.Count.{trailing_of_zero}
use Rattle.std.proofs.lemmas.Bool.{cases_lt}
use Rattle.std.proofs.lemmas.List.{take-set, take_more_set}
use Rattle.std.proofs.lemmas.Nat.Bits.{bit_at-lt, bit_at-trailing_zeros, bit_at-zero, bit_at_clear_same, bit_at_clear_other, bit_at_not}
use Rattle.basket_sets.specs.Itemset.{IsRising}
use Rattle.basket_rules.specs.declared.consequents.Consequent.{Consequent}
use Rattle.basket_rules.specs.declared.consequents.TheConstants.{MOST_BITS}
use Rattle.basket_rules.specs.Consequents.{chosen, chosen_from, has_bit, side_of}
use Rattle.basket_rules.specs.Rules.{difference}
use Rattle.basket_rules.proofs.ConsequentLemmas.{chosen_alike, none_chosen, item_taken, item_left, others_are}

-- ---- from the lowest index on

-- the first index that passes, and the test without it
first_chosen : (one other : ℕ → Bool) (start index none : ℕ) (items : List ℕ) → start ≤ index → index < start + length items
    → one index ≡ true → ((i : ℕ) → i < index → one i ≡ false) → other index ≡ false → ((i : ℕ) → i < start + length items → i ≢ index → other i ≡ one i)
    → chosen_from one start items ≡ get_or items (index - start) none ∷ chosen_from other start items
first_chosen one other start index none [] low high here before gone same = absurd (omega (arith, low, high))
first_chosen one other start index none (x ∷ items) low high here before gone same = elim (cases_lt start index) [
  | inl less ↦
      (let e : other start ≡ false = same start (omega arith) (λ e. omega (arith, e, less)) ∙ before start less in
      let rest = first_chosen one other (suc start) index none items (omega (arith, less)) (omega (arith, high)) here before gone (λ i h differ. same i (omega (arith, h)) differ) in
      let on : index - start ≡ suc (index - suc start) = omega (arith, less) in
      ap (λ b. cond b (x ∷ chosen_from one (suc start) items) (chosen_from one (suc start) items)) (before start less) ∙ rest
      ∙ ap (λ n. get_or (x ∷ items) n none ∷ chosen_from other (suc start) items) (sym on)
      ∙ sym (ap (λ b. get_or (x ∷ items) (index - start) none ∷ cond b (x ∷ chosen_from other (suc start) items) (chosen_from other (suc start) items)) e))
  | inr more ↦
      (let is : start ≡ index = omega (arith, low, more) in
      let on : index - start ≡ 0 = omega (arith, low, more) in
      let rest = chosen_alike one other (suc start) items (λ i low h. sym (same i (omega (arith, h)) (λ e. omega (arith, low, e, is)))) in
      ap (λ b. cond b (x ∷ chosen_from one (suc start) items) (chosen_from one (suc start) items)) (ap one is ∙ here)
      ∙ ap (λ n. get_or (x ∷ items) n none ∷ chosen_from one (suc start) items) (sym on)
      ∙ ap (λ l. get_or (x ∷ items) (index - start) none ∷ l) rest
      ∙ sym (ap (λ b. get_or (x ∷ items) (index - start) none ∷ cond b (x ∷ chosen_from other (suc start) items) (chosen_from other (suc start) items)) (ap other is ∙ gone)))
]

-- the word without its lowest index
abbrev pub next_word : ℕ → ℕ
next_word word = bit_and word (bit_not w64 (1 * 2 ^ trailing_zeros w64 word % 2 ^ 64))

pub first_of_word : (word none : ℕ) (union : List ℕ) → word < 2 ^ 64 → length union ≤ 64 → trailing_zeros w64 word < length union
    → chosen (has_bit word) union ≡ get_or union (trailing_zeros w64 word) none ∷ chosen (has_bit (next_word word)) union
first_of_word word none union fits few within = elim (cases_lt 0 word) [
  | inl some ↦
      (let bits = bit_at-trailing_zeros w64 word some fits in
      let index = trailing_zeros w64 word in
      first_chosen (has_bit word) (has_bit (next_word word)) 0 index none union (omega arith) (omega (arith, within))
      (ap (λ n. eqb n 1) bits.1) (λ i h. ap (λ n. eqb n 1) (bits.2 i h))
      (ap (λ n. eqb n 1) (bit_at_clear_same w64 word index bits.0))
      (λ i h differ. ap (λ n. eqb n 1) (bit_at_clear_other w64 word index bits.0 i (omega (arith, h, few)) differ))
      ∙ ap (λ n. get_or union n none ∷ chosen (has_bit (next_word word)) union) (less_nothing index))
  | inr empty ↦ (let is : word ≡ 0 = omega (arith, empty) in let all = ap (trailing_zeros w64) is ∙ trailing_of_zero 64 in absurd (omega (arith, all, within, few)))
]
  where
    less_nothing : (n : ℕ) → n - 0 ≡ n
    less_nothing n = omega arith

-- no index of the word is left
pub none_of_word : (word : ℕ) (union : List ℕ) → word < 2 ^ 64 → length union ≤ trailing_zeros w64 word → chosen (has_bit word) union ≡ []
none_of_word word union fits past = none_chosen (has_bit word) 0 union (λ i h. elim (cases_lt 0 word) [
  | inl some ↦ ap (λ n. eqb n 1) ((bit_at-trailing_zeros w64 word some fits).2 i (omega (arith, h, past)))
  | inr empty ↦ (let is : word ≡ 0 = omega (arith, empty) in ap (λ n. has_bit n i) is ∙ ap (λ n. eqb n 1) (bit_at-zero i))
])

-- the indexes that a word has not are those of its complement
pub others_of_word : (word : ℕ) (union : List ℕ) → word < 2 ^ 64 → length union ≤ 64 → chosen (has_bit (bit_not w64 word)) union ≡ chosen (λ index. not (has_bit word index)) union
others_of_word word union fits few = chosen_alike (has_bit (bit_not w64 word)) (λ index. not (has_bit word index)) 0 union
    (λ i low h. ap (λ n. eqb n 1) (bit_at_not w64 word i fits (omega (arith, h, few))) ∙ other (bit_at word i) (bit_at-lt word i))
  where
    other : (n : ℕ) → n < 2 → eqb (1 - n) 1 ≡ not (eqb n 1)
    other zero h = refl
    other (suc zero) h = refl
    other (suc (suc n)) h = absurd (omega (arith, h))

-- ---- both sides index by index

-- an item that passes is kept after those before it
pub put_taken : (test : ℕ → Bool) (union side : List ℕ) (index on : ℕ) → index < length union → on < length side → test index ≡ true
    → take on side ≡ chosen test (take index union) → take (on + 1) (set side on (get_or union index 0)) ≡ chosen test (take (index + 1) union)
put_taken test union side index on below room passes so = grind (arith, common_steps, take_more_set, item_taken)

-- another is not
pub put_left : (test : ℕ → Bool) (union side : List ℕ) (index on item : ℕ) → index < length union → test index ≡ false
    → take on side ≡ chosen test (take index union) → take on (set side on item) ≡ chosen test (take (index + 1) union)
put_left test union side index on item below fails so = take-set side on item ∙ so ∙ sym (item_left test union index below fails)

-- ---- the antecedent

pub antecedent_side : (consequent : Consequent) (union : List ℕ) → consequent.bits < 2 ^ 64 → length union ≤ MOST_BITS → IsRising union
    → chosen (has_bit (bit_not w64 consequent.bits)) union ≡ difference union (side_of union consequent)
antecedent_side consequent union fits few up = others_of_word consequent.bits union fits (omega (arith, few)) ∙ others_are (has_bit consequent.bits) 0 union up
