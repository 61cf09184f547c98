-- Sets with one index more or less.
use Rattle.std.proofs.Common.{◌≡◌, ℕ, zero, suc, ◌+◌, ◌-◌, ◌*◌, ◌/◌, ◌%◌, ◌^◌, ◌<◌, ◌≤◌, List, [], ◌∷◌, ◌++◌, true, length, get_or, refl, sym, ap, ◌∙◌, subst, inl, inr, arith, append_assoc, lt_of_lt_of_le, lt_trans, mod-lt, pow_mono}
use Rattle.std.proofs.lemmas.Grind.{common_steps}
use Rattle.std.proofs.lemmas.Nat.{mod_low, mul-add-lt, pow-add, pow_pos, shr_below, shr-shr, shr_high}
use Rattle.std.proofs.lemmas.List.{get_or-map, length-map}
use Rattle.basket_lists.specs.declared.packed.Packed.{Packed}
use Rattle.basket_lists.specs.Known.{FitsWord, IsBetween, IsWordOf, longer_number, shorter_number}
use Rattle.basket_lists.specs.Packed.{Coding, IsCoding, IsLonger, IsPacked, code_of, digits, items_at, number_of, indexes_of, set_of, size_of}
use Rattle.basket_lists.specs.Without.{IsLongerBy}
use Rattle.basket_lists.proofs.BetweenLemmas.{before_below, after_above, items_between, items_rise, with_between}
use Rattle.basket_lists.proofs.DigitLemmas.{digit_at, digits_same, digits_split, length-digits}
use Rattle.basket_lists.proofs.WordLemmas.{size_bits}
use Rattle.basket_sets.specs.Itemset.{IsRising, has, with_item}
use Rattle.basket_sets.proofs.theory.Members.{Member, Member-append, Member-append_right}
use Rattle.basket_sets.proofs.theory.Rising.{Member-from_has, Member-with_item, has-from_Member, with_item-rises}
use Rattle.basket_sets.proofs.theory.Tests.{Member-at}

-- the digits of a number and last bits below it
digits_joined : (bits first last high number size : ℕ) → size ≡ first + last
    → digits bits size (high * 2 ^ (last * bits) + number % 2 ^ (last * bits)) ≡ digits bits first high ++ digits bits last number
digits_joined bits first last high number size is =
    let all = high * 2 ^ (last * bits) + number % 2 ^ (last * bits) in
    let small = mod-lt number (pow_pos (last * bits)) in
    digits_split bits first last size all is
    ∙ ap (λ h. digits bits first h ++ digits bits last all) (shr_high high (last * bits) (number % 2 ^ (last * bits)) small)
    ∙ ap (λ l. digits bits first high ++ l) (digits_same bits last all number (mod_low high (last * bits) (number % 2 ^ (last * bits)) small))

joined_below : (bits first last high number : ℕ) → high < 2 ^ (first * bits) → high * 2 ^ (last * bits) + number % 2 ^ (last * bits) < 2 ^ ((first + last) * bits)
joined_below bits first last high number below = grind (arith, common_steps, pow-add, mul-add-lt, pow_pos)

-- the first digits of a number
first_below : (bits first last size number : ℕ) → size ≡ first + last → number < 2 ^ (size * bits) → number / 2 ^ (last * bits) < 2 ^ (first * bits)
first_below bits first last size number is below = grind (arith, common_steps, shr_below)

-- ---- one index more

module _ (bits size number index above : ℕ) (few : above ≤ size) (small : index < 2 ^ bits) where
  abbrev before : List ℕ
  before = digits bits (size - above) (number / 2 ^ (above * bits))

  abbrev after : List ℕ
  after = digits bits above number

  abbrev first : ℕ
  first = number / 2 ^ (above * bits) * 2 ^ bits + index

  pub longer_digits : digits bits (size + 1) (longer_number bits number index (above * bits)) ≡ before ++ index ∷ after
  longer_digits =
      let one : digits bits (suc (size - above)) first ≡ before ++ index ∷ [] =
      ap (λ h. digits bits (size - above) h ++ first % 2 ^ bits ∷ []) (shr_high (number / 2 ^ (above * bits)) bits index small)
      ∙ ap (λ p. before ++ p ∷ []) (mod_low (number / 2 ^ (above * bits)) bits index small) in
      digits_joined bits (suc (size - above)) above first number (size + 1) (omega (arith, few))
      ∙ ap (λ l. l ++ after) one ∙ append_assoc before (index ∷ []) after

  pub longer_below : number < 2 ^ (size * bits) → longer_number bits number index (above * bits) < 2 ^ ((size + 1) * bits)
  longer_below below =
      let high : number / 2 ^ (above * bits) < 2 ^ ((size - above) * bits) = first_below bits (size - above) above size number (omega (arith, few)) below in
      let product : 2 ^ bits * 2 ^ ((size - above) * bits) ≡ 2 ^ (suc (size - above) * bits) =
      sym (pow-add 2 bits ((size - above) * bits)) ∙ ap (λ k. 2 ^ k) (let e : bits + (size - above) * bits ≡ suc (size - above) * bits = omega arith in e) in
      let front : first < 2 ^ (suc (size - above) * bits) =
      subst (λ p. first < p) product (mul-add-lt (number / 2 ^ (above * bits)) (2 ^ bits) index (2 ^ ((size - above) * bits)) high small) in
      subst (λ n. longer_number bits number index (above * bits) < 2 ^ (n * bits)) (let e : suc (size - above) + above ≡ size + 1 = omega (arith, few) in e)
      (joined_below bits (suc (size - above)) above first number front)

-- ---- one index less

pub shorter_digits : (bits size number above : ℕ) → above < size
    → digits bits (size - 1) (shorter_number bits number (above * bits)) ≡ digits bits (size - 1 - above) (number / 2 ^ (above * bits) / 2 ^ bits) ++ digits bits above number
shorter_digits bits size number above less = digits_joined bits (size - 1 - above) above (number / 2 ^ (above * bits) / 2 ^ bits) number (size - 1) (omega (arith, less))

pub shorter_below : (bits size number above : ℕ) → above < size → number < 2 ^ (size * bits) → shorter_number bits number (above * bits) < 2 ^ ((size - 1) * bits)
shorter_below bits size number above less below =
    let high : number / 2 ^ (above * bits) < 2 ^ (suc (size - 1 - above) * bits) = first_below bits (suc (size - 1 - above)) above size number (omega (arith, less)) below in
    let rest : number / 2 ^ (above * bits) / 2 ^ bits < 2 ^ ((size - 1 - above) * bits) =
    shr_below (number / 2 ^ (above * bits)) ((size - 1 - above) * bits) bits
    (subst (λ k. number / 2 ^ (above * bits) < 2 ^ k) (let e : suc (size - 1 - above) * bits ≡ (size - 1 - above) * bits + bits = omega arith in e) high) in
    grind (arith, common_steps, joined_below)

-- the digits of a number around one of them
digits_around : (bits size number above : ℕ) → above < size
    → digits bits size number ≡ digits bits (size - 1 - above) (number / 2 ^ (above * bits) / 2 ^ bits) ++ (number / 2 ^ (above * bits) % 2 ^ bits) ∷ digits bits above number
digits_around bits size number above less = grind (arith, common_steps, digits_split bits (suc (size - 1 - above)) above size number (omega (arith, less)))

-- ---- the digits one after another

pub next_rest : (bits number above : ℕ) → number / 2 ^ (above * bits) / 2 ^ bits ≡ number / 2 ^ ((above + 1) * bits)
next_rest bits number above = shr-shr number (above * bits) bits ∙ ap (λ k. number / 2 ^ k) (let e : above * bits + bits ≡ (above + 1) * bits = omega arith in e)

pub greater_more : (bits number index above : ℕ) → index < number / 2 ^ (above * bits) % 2 ^ bits → ((other : ℕ) → Member other (digits bits above number) → index < other)
    → (other : ℕ) → Member other (digits bits (above + 1) number) → index < other
greater_more bits number index above more greater other m =
    let rest = number / 2 ^ (above * bits) in
    let parts : digits bits (above + 1) number ≡ (rest % 2 ^ bits) ∷ digits bits above number = digits_split bits (suc zero) above (above + 1) number (omega arith) in
    elim (subst (Member other) parts m) [ inl same ↦ subst (λ n. index < n) same more | inr later ↦ greater other later ]

-- the index of an item that is less than so many digits and greater than the one before them
module _ (bits size number index above : ℕ) (less : above < size) (up : IsRising (digits bits size number)) (lower : number / 2 ^ (above * bits) % 2 ^ bits < index)
    (greater : (other : ℕ) → Member other (digits bits above number) → index < other) where
  abbrev rest : ℕ
  rest = number / 2 ^ (above * bits)

  abbrev first_digits : List ℕ
  first_digits = digits bits (size - 1 - above) (rest / 2 ^ bits)

  first_less : (other : ℕ) → Member other (digits bits (size - above) rest) → other < index
  first_less other m =
      let count : size - above ≡ suc (size - 1 - above) = omega (arith, less) in
      let parts : digits bits (size - above) rest ≡ first_digits ++ (rest % 2 ^ bits) ∷ [] = ap (λ n. digits bits n rest) count in
      let around : IsRising (first_digits ++ (rest % 2 ^ bits) ∷ digits bits above number) = subst IsRising (digits_around bits size number above less) up in
      elim (Member-append other first_digits ((rest % 2 ^ bits) ∷ []) (subst (Member other) parts m)) [
        | inl first ↦ lt_trans (before_below first_digits (rest % 2 ^ bits) (digits bits above number) around other first) lower
        | inr last ↦ elim last [ inl same ↦ subst (λ n. n < index) same lower | inr none ↦ absurd none ]
      ]

  pub is_between : IsBetween bits size number index above
  is_between = record { few = omega (arith, less); less = first_less; greater = greater }

-- the indexes of a packed set
module _ (coding : Coding) (is : IsCoding coding) (packed : Packed) (set : IsPacked coding packed) where
  abbrev code : ℕ
  code = code_of coding packed

  abbrev size : ℕ
  size = size_of coding code

  abbrev number : ℕ
  number = number_of coding code

  abbrev bits : ℕ
  bits = coding.item_bits

  pub within : (index : ℕ) → Member index (digits bits size number) → index < length coding.items
  within index m = set.code.below index (has-from_Member (digits bits size number) index m)

  -- the digit before so many others is the index of an item
  module _ (left rest : ℕ) (some : 0 < left) (few : left ≤ size) (rest_is : rest ≡ number / 2 ^ ((size - left) * bits)) where
    digit_is : rest % 2 ^ bits ≡ get_or (digits bits size number) (left - 1) 0
    digit_is = ap (λ n. n % 2 ^ bits) rest_is ∙ sym (digit_at bits (left - 1) (size - left) size number (omega (arith, some, few)))

    listed : left - 1 < length (digits bits size number)
    listed = omega (arith, length-digits bits size number, some, few)

    pub digit_known : rest % 2 ^ bits < length coding.items
    digit_known = subst (λ p. p < length coding.items) (sym digit_is) (within _ (Member-at (digits bits size number) (left - 1) listed))

    pub digit_item : get_or coding.items (rest % 2 ^ bits) 0 ≡ get_or (set_of coding code) (left - 1) 0
    digit_item = ap (λ p. get_or coding.items p 0) digit_is ∙ sym (get_or-map (λ p. get_or coding.items p 0) (digits bits size number) (left - 1) 0 0 listed)

    pub rest_next : rest / 2 ^ bits ≡ number / 2 ^ ((size - (left - 1)) * bits)
    rest_next =
        ap (λ n. n / 2 ^ bits) rest_is ∙ next_rest bits number (size - left)
        ∙ ap (λ n. number / 2 ^ (n * bits)) (let e : size - left + 1 ≡ size - (left - 1) = omega (arith, some, few) in e)

  pub set_length : length (set_of coding code) ≡ size
  set_length = length-map (digits bits size number) (λ p. get_or coding.items p 0) ∙ length-digits bits size number

  module _ (index item count above : ℕ) (known : index < length coding.items) (named : get_or coding.items index 0 ≡ item) (between : IsBetween bits size number index above)
      (room : size < coding.most) where
    small : index < 2 ^ bits
    small = omega (arith, known, is.indexes)

    abbrev front : List ℕ
    front = before bits size number index above between.few small

    abbrev back : List ℕ
    back = after bits size number index above between.few small

    parts : digits bits size number ≡ front ++ back
    parts = digits_split bits (size - above) above size number (omega (arith, between.few))

    pub longer_fits : longer_number bits number index (above * bits) < 2 ^ ((size + 1) * bits)
    longer_fits = longer_below bits size number index above between.few small set.code.number

    pub longer_small : longer_number bits number index (above * bits) < 2 ^ 121
    longer_small = lt_of_lt_of_le longer_fits (pow_mono {j = 121} (omega (arith, size_bits coding is (size + 1) (omega (arith, room)))))

    together : with_item index (digits bits size number) ≡ front ++ index ∷ back
    together = ap (with_item index) parts ∙ with_between index front back between.less between.greater

    pub longer_is : (longer : Packed) → IsWordOf coding (size + 1) (longer_number bits number index (above * bits)) count longer → IsLonger coding packed item count longer
    longer_is longer word =
        let indexes : indexes_of coding (code_of coding longer) ≡ front ++ index ∷ back =
        ap (λ s. digits bits s (number_of coding (code_of coding longer))) word.sized ∙ ap (digits bits (size + 1)) word.numbered
        ∙ longer_digits bits size number index above between.few small in
        let now : indexes_of coding (code_of coding longer) ≡ with_item index (digits bits size number) = indexes ∙ sym together in
        record {
          is = record {
            code = record {
              size = omega (arith, word.sized, room);
              number = subst (λ n. n < 2 ^ (size_of coding (code_of coding longer) * bits)) (sym word.numbered)
                  (subst (λ s. longer_number bits number index (above * bits) < 2 ^ (s * bits)) (sym word.sized) longer_fits);
              rises = subst IsRising (sym now) (with_item-rises index (digits bits size number) set.code.rises);
              below = λ other here. elim (Member-with_item index (digits bits size number) other (Member-from_has _ other (subst (λ l. has l other ≡ true) now here))) [
                | inl same ↦ subst (λ p. p < length coding.items) same known
                | inr m ↦ within other m
              ];
            };
            here = word.here;
          };
          set = ap (items_at coding.items) indexes
              ∙ items_between coding.items front back index is.rises known (λ other m. within other (subst (Member other) (sym parts) (Member-append_right other front back m))) between.less between.greater
              ∙ ap (λ p. with_item (get_or coding.items index 0) (items_at coding.items p)) (sym parts) ∙ ap (λ i. with_item i (set_of coding code)) named;
          counted = word.counted;
        }

  module _ (above : ℕ) (less : above < size) where
    abbrev index : ℕ
    index = number / 2 ^ (above * bits) % 2 ^ bits

    abbrev ahead : List ℕ
    ahead = digits bits (size - 1 - above) (number / 2 ^ (above * bits) / 2 ^ bits)

    abbrev rear : List ℕ
    rear = digits bits above number

    around : digits bits size number ≡ ahead ++ index ∷ rear
    around = digits_around bits size number above less

    rising_around : IsRising (ahead ++ index ∷ rear)
    rising_around = subst IsRising around set.code.rises

    pub shorter_fits : FitsWord coding (size - 1) (shorter_number bits number (above * bits)) 0
    shorter_fits = record { sized = omega (arith, set.code.size); numbered = shorter_below bits size number above less set.code.number; counted = pow_pos coding.count_bits }

    known_index : index < length coding.items
    known_index = within index (subst (Member index) (sym around) (Member-append_right index ahead (index ∷ rear) (inl refl)))

    -- the item is that of the set at its index
    item_is : get_or (set_of coding code) (size - 1 - above) 0 ≡ get_or coding.items index 0
    item_is =
        get_or-map (λ p. get_or coding.items p 0) (digits bits size number) (size - 1 - above) 0 0 (omega (arith, less, length-digits bits size number))
        ∙ ap (λ p. get_or coding.items p 0) (digit_at bits (size - 1 - above) above size number (omega (arith, less)))

    pub shorter_is : (shorter : ℕ) → size_of coding shorter ≡ size - 1 → number_of coding shorter ≡ shorter_number bits number (above * bits)
        → IsLongerBy (get_or (set_of coding code) (size - 1 - above) 0) (set_of coding shorter) (set_of coding code)
    shorter_is shorter sized numbered =
        let indexes : indexes_of coding shorter ≡ ahead ++ rear =
        ap (λ s. digits bits s (number_of coding shorter)) sized ∙ ap (digits bits (size - 1)) numbered ∙ shorter_digits bits size number above less in
        let whole : set_of coding code ≡ with_item (get_or coding.items index 0) (items_at coding.items (ahead ++ rear)) =
        ap (items_at coding.items) around
        ∙ items_between coding.items ahead rear index is.rises known_index
        (λ other m. within other (subst (Member other) (sym around) (Member-append_right other ahead (index ∷ rear) (inr m))))
        (before_below ahead index rear rising_around) (after_above ahead index rear rising_around) in
        record {
          rises = items_rise coding.items (digits bits size number) is.rises set.code.rises within;
          is = whole ∙ ap (λ i. with_item i (items_at coding.items (ahead ++ rear))) (sym item_is)
              ∙ ap (λ p. with_item (get_or (set_of coding code) (size - 1 - above) 0) (items_at coding.items p)) (sym indexes);
          size = length-map (digits bits size number) (λ p. get_or coding.items p 0) ∙ length-digits bits size number
              ∙ (let e : size ≡ suc (size - 1) = omega (arith, less) in e)
              ∙ ap suc (sym (length-map (indexes_of coding shorter) (λ p. get_or coding.items p 0) ∙ length-digits bits (size_of coding shorter) (number_of coding shorter) ∙ sized));
        }
