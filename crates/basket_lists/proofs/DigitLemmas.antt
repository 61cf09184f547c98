-- The digits of a number.
use Rattle.std.proofs.Common.{◌≡◌, ℕ, zero, suc, ◌+◌, ◌*◌, ◌/◌, ◌%◌, ◌^◌, ◌<◌, ◌≤◌, List, [], ◌∷◌, ◌++◌, length, get_or, refl, sym, ap, ◌∙◌, subst, inl, inr, arith, append_assoc, append-nil, mod-lt, true≢false}
use Rattle.std.specs.declared.cmp.Ordering.TheVariants.{Less, Equal, Greater}
use Rattle.std.specs.Ordering.{is_eq, nat_cmp, ordering_then}
use Rattle.std.specs.Cmp.Lexicographic.{slice_cmp}
use Rattle.std.proofs.Math.Nat.{zero-mul}
use Rattle.std.proofs.lemmas.Bool.{cases_lt}
use Rattle.std.proofs.lemmas.Nat.{div_below, field_of, mod_low, mod-pow-add, pow-add, pow_pos, shr-shr, shr_split}
use Rattle.std.proofs.Math.Pow.{shr_mono}
use Rattle.std.proofs.lemmas.List.{length-append}
use Rattle.std.proofs.Math.Seq.{get_or-append_seam}
use Rattle.basket_lists.specs.Packed.{digits}
use Rattle.basket_lists.proofs.NumberOrder.{greater_number, same_numbers}

-- ---- one digit after another

pub length-digits : (bits size number : ℕ) → length (digits bits size number) ≡ size
length-digits bits zero number = refl
length-digits bits (suc size) number = length-append (digits bits size (number / 2 ^ bits)) (number % 2 ^ bits ∷ []) ∙ omega (arith, length-digits bits size (number / 2 ^ bits))

next_bits : (bits count : ℕ) → bits + count * bits ≡ suc count * bits
next_bits bits count = omega arith

-- the first digits, and the last ones
pub digits_split : (bits first last size number : ℕ) → size ≡ first + last → digits bits size number ≡ digits bits first (number / 2 ^ (last * bits)) ++ digits bits last number
digits_split bits first zero size number is =
    let none : number / 2 ^ (0 * bits) ≡ number = ap (λ k. number / 2 ^ k) (zero-mul bits) ∙ (let e : number / 2 ^ 0 ≡ number = omega arith in e) in
    let same : size ≡ first = omega (arith, is) in
    ap (λ n. digits bits n number) same ∙ ap (digits bits first) (sym none) ∙ sym (append-nil (digits bits first (number / 2 ^ (0 * bits))))
digits_split bits first (suc last) zero number is = absurd (omega (arith, is))
digits_split bits first (suc last) (suc size) number is =
    let rest = number / 2 ^ bits in
    let shift : rest / 2 ^ (last * bits) ≡ number / 2 ^ (suc last * bits) = shr-shr number bits (last * bits) ∙ ap (λ n. number / 2 ^ n) (next_bits bits last) in
    ap (λ l. l ++ number % 2 ^ bits ∷ []) (digits_split bits first last size rest (omega (arith, is)))
    ∙ append_assoc (digits bits first (rest / 2 ^ (last * bits))) (digits bits last rest) (number % 2 ^ bits ∷ [])
    ∙ ap (λ n. digits bits first n ++ digits bits (suc last) number) shift

-- the digit at an index
pub digit_at : (bits first last size number : ℕ) → size ≡ suc first + last → get_or (digits bits size number) first 0 ≡ number / 2 ^ (last * bits) % 2 ^ bits
digit_at bits first last size number is =
    let rest = number / 2 ^ (last * bits) in
    let before = digits bits first (rest / 2 ^ bits) in
    ap (λ l. get_or l first 0) (digits_split bits (suc first) last size number is ∙ append_assoc before (rest % 2 ^ bits ∷ []) (digits bits last number))
    ∙ ap (λ n. get_or (before ++ (rest % 2 ^ bits ∷ digits bits last number)) n 0) (sym (length-digits bits first (rest / 2 ^ bits)))
    ∙ get_or-append_seam before (rest % 2 ^ bits) (digits bits last number) 0

-- the digits are those of the lowest bits
pub digits_same : (bits size number other : ℕ) → number % 2 ^ (size * bits) ≡ other % 2 ^ (size * bits) → digits bits size number ≡ digits bits size other
digits_same bits zero number other same = refl
digits_same bits (suc size) number other same =
    let wide : (n : ℕ) → n % 2 ^ (suc size * bits) ≡ n % 2 ^ (size * bits + bits) = λ n. ap (λ k. n % 2 ^ k) (let e : suc size * bits ≡ size * bits + bits = omega arith in e) in
    let alike = sym (wide number) ∙ same ∙ wide other in
    let high : number / 2 ^ bits % 2 ^ (size * bits) ≡ other / 2 ^ bits % 2 ^ (size * bits) =
    sym (field_of number (size * bits) bits) ∙ ap (λ n. n / 2 ^ bits) alike ∙ field_of other (size * bits) bits in
    let low : number % 2 ^ bits ≡ other % 2 ^ bits = sym (last number (size * bits)) ∙ ap (λ n. n % 2 ^ bits) alike ∙ last other (size * bits) in
    ap (λ l. l ++ number % 2 ^ bits ∷ []) (digits_same bits size (number / 2 ^ bits) (other / 2 ^ bits) high)
    ∙ ap (λ d. digits bits size (other / 2 ^ bits) ++ d ∷ []) low
  where
    last : (n more : ℕ) → n % 2 ^ (more + bits) % 2 ^ bits ≡ n % 2 ^ bits
    last n more = ap (λ m. m % 2 ^ bits) (mod-pow-add n more bits) ∙ mod_low (n / 2 ^ bits % 2 ^ more) bits (n % 2 ^ bits) (mod-lt n (pow_pos bits))

-- ---- the order of lists of one length

same_front : (front xs ys : List ℕ) → slice_cmp nat_cmp (front ++ xs) (front ++ ys) ≡ slice_cmp nat_cmp xs ys
same_front [] xs ys = refl
same_front (x ∷ front) xs ys = ap (λ o. ordering_then o (slice_cmp nat_cmp (front ++ xs) (front ++ ys))) (same_numbers x) ∙ same_front front xs ys

greater_front : (a b xs ys : List ℕ) → length a ≡ length b → slice_cmp nat_cmp a b ≡ Greater → slice_cmp nat_cmp (a ++ xs) (b ++ ys) ≡ Greater
greater_front [] [] xs ys same more = absurd (true≢false (ap is_eq more))
greater_front [] (y ∷ b) xs ys same more = absurd (omega (arith, same))
greater_front (x ∷ a) [] xs ys same more = absurd (omega (arith, same))
greater_front (x ∷ a) (y ∷ b) xs ys same more =
    elim (nat_cmp x y) as (λ o. nat_cmp x y ≡ o → ordering_then o (slice_cmp nat_cmp a b) ≡ Greater → ordering_then o (slice_cmp nat_cmp (a ++ xs) (b ++ ys)) ≡ Greater) [
      | Less ↦ λ e m. m
      | Equal ↦ λ e m. greater_front a b xs ys (omega (arith, same)) m
      | Greater ↦ λ e m. refl
    ] refl more

-- the digits of a greater number are a greater list
pub digits_greater : (bits size number other : ℕ) → number < other → other < 2 ^ (size * bits) → slice_cmp nat_cmp (digits bits size other) (digits bits size number) ≡ Greater
digits_greater bits zero number other less below =
    let one : other < 1 = subst (λ k. other < 2 ^ k) (zero-mul bits) below in absurd (omega (arith, less, one))
digits_greater bits (suc size) number other less below =
    let high : other / 2 ^ bits < 2 ^ (size * bits) =
    div_below other (2 ^ bits) (2 ^ (size * bits)) (pow_pos bits)
    (subst (λ p. other < p) (ap (λ k. 2 ^ k) (let e : suc size * bits ≡ size * bits + bits = omega arith in e) ∙ pow-add 2 (size * bits) bits) below) in
    let front : (n : ℕ) → List ℕ = λ n. digits bits size (n / 2 ^ bits) in
    elim (cases_lt (number / 2 ^ bits) (other / 2 ^ bits)) [
      | inl before ↦
          greater_front (front other) (front number) (other % 2 ^ bits ∷ []) (number % 2 ^ bits ∷ [])
          (length-digits bits size (other / 2 ^ bits) ∙ sym (length-digits bits size (number / 2 ^ bits)))
          (digits_greater bits size (number / 2 ^ bits) (other / 2 ^ bits) before high)
      | inr not_before ↦
          (let at_most : number / 2 ^ bits ≤ other / 2 ^ bits = shr_mono bits (omega (arith, less)) in
          let same : number / 2 ^ bits ≡ other / 2 ^ bits = omega (arith, at_most, not_before) in
          let product : number / 2 ^ bits * 2 ^ bits ≡ other / 2 ^ bits * 2 ^ bits = ap (λ q. q * 2 ^ bits) same in
          let last : number % 2 ^ bits < other % 2 ^ bits = omega (arith, less, product, shr_split number bits, shr_split other bits) in
          ap (λ q. slice_cmp nat_cmp (digits bits (suc size) other) (digits bits size q ++ number % 2 ^ bits ∷ [])) same
          ∙ same_front (front other) (other % 2 ^ bits ∷ []) (number % 2 ^ bits ∷ [])
          ∙ ap (λ o. ordering_then o Equal) (greater_number (other % 2 ^ bits) (number % 2 ^ bits) last))
    ]
