-- Words: the size and the indexes of a set above its count.
use Rattle.std.proofs.Common.{◌≡◌, ℕ, ◌+◌, ◌-◌, ◌*◌, ◌/◌, ◌%◌, ◌^◌, ◌<◌, ◌≤◌, sym, ap, ◌∙◌, subst, arith, mul_assoc, mul-le-mul_right, pow_mono, mod-eq_of_lt, lt_of_lt_of_le}
use Rattle.std.proofs.lemmas.Grind.{common_steps}
use Rattle.std.proofs.lemmas.Nat.{field_of, mod_low, mod-pow-add, mul-add-lt, pow-add, shl-shr, shr-shr, shr_high}
use Rattle.std.proofs.Math.Nat.{add-mul}
use Rattle.basket_lists.specs.declared.packed.Packed.{Packed}
use Rattle.basket_lists.specs.Known.{FitsWord, IsWordOf}
use Rattle.basket_lists.specs.Packed.{Coding, IsCoding, code_of, number_of, size_of}

module _ (coding : Coding) (is : IsCoding coding) where
  abbrev low : ℕ
  low = coding.count_bits

  abbrev indexes : ℕ
  indexes = 121 - coding.count_bits

  whole : 2 ^ low * 2 ^ indexes ≡ 2 ^ 121
  whole = sym (pow-add 2 low indexes) ∙ ap (λ k. 2 ^ k) (let e : low + indexes ≡ 121 = omega (arith, is.counts) in e)

  -- the size begins at bit 121
  pub size_is : (packed : Packed) → packed.word / 2 ^ 121 ≡ size_of coding (code_of coding packed)
  size_is packed = sym (shr-shr packed.word low indexes ∙ ap (λ k. packed.word / 2 ^ k) (let e : low + indexes ≡ 121 = omega (arith, is.counts) in e))

  -- the number is what is left without the size and the count
  pub number_is : (packed : Packed) → packed.word * 2 ^ 7 % 2 ^ 128 / 2 ^ (7 + low) ≡ number_of coding (code_of coding packed)
  number_is packed =
      let word = packed.word in
      let none : word * 2 ^ 7 % 2 ^ 7 ≡ 0 = ap (λ n. n % 2 ^ 7) (let e : word * 2 ^ 7 ≡ word * 2 ^ 7 + 0 = omega arith in e) ∙ mod_low word 7 0 (omega arith) in
      let cut : word * 2 ^ 7 % 2 ^ 128 ≡ word % 2 ^ 121 * 2 ^ 7 =
      mod-pow-add (word * 2 ^ 7) 121 7 ∙ ap (λ n. n % 2 ^ 121 * 2 ^ 7 + word * 2 ^ 7 % 2 ^ 7) (shl-shr word 7) ∙ omega (arith, none) in
      ap (λ n. n / 2 ^ (7 + low)) cut ∙ sym (shr-shr (word % 2 ^ 121 * 2 ^ 7) 7 low) ∙ ap (λ n. n / 2 ^ low) (shl-shr (word % 2 ^ 121) 7)
      ∙ ap (λ k. word % 2 ^ k / 2 ^ low) (let e : 121 ≡ indexes + low = omega (arith, is.counts) in e) ∙ field_of word indexes low

  -- the indexes of as many items as a word takes have room
  pub size_bits : (size : ℕ) → size ≤ coding.most → size * coding.item_bits + low ≤ 121
  size_bits size few = omega (arith, is.room, mul-le-mul_right coding.item_bits few)

  module _ (size number count : ℕ) (fits : FitsWord coding size number count) where
    abbrev code : ℕ
    code = size * 2 ^ indexes + number

    number_below : number < 2 ^ indexes
    number_below = lt_of_lt_of_le fits.numbered (pow_mono (omega (arith, size_bits size fits.sized)))

    code_below : code < 2 ^ indexes * 64
    code_below = mul-add-lt size (2 ^ indexes) number 64 (omega (arith, fits.sized, is.sizes)) number_below

    pub word_below : code * 2 ^ low + count < 2 ^ 127
    word_below =
        let below = mul-add-lt code (2 ^ low) count (2 ^ indexes * 64) code_below fits.counted in
        let all : 2 ^ low * (2 ^ indexes * 64) ≡ 2 ^ 127 = sym (mul_assoc (2 ^ low) (2 ^ indexes) 64) ∙ ap (λ p. p * 64) whole in
        subst (λ p. code * 2 ^ low + count < p) all below

    -- nothing is lost where it is put together
    split : code * 2 ^ low + count ≡ size * 2 ^ 121 + number * 2 ^ low + count
    split = grind (arith, common_steps, add-mul, whole)

    pub size_kept : size * 2 ^ 121 % 2 ^ 128 ≡ size * 2 ^ 121
    size_kept = mod-eq_of_lt (omega (arith, fits.sized, is.sizes))

    pub number_kept : number * 2 ^ low % 2 ^ 128 ≡ number * 2 ^ low
    number_kept = mod-eq_of_lt (omega (arith, split, word_below))

    pub word_is : size * 2 ^ 121 % 2 ^ 128 + number * 2 ^ low % 2 ^ 128 + count ≡ code * 2 ^ low + count
    word_is = ap (λ n. n + number * 2 ^ low % 2 ^ 128 + count) size_kept ∙ ap (λ n. size * 2 ^ 121 + n + count) number_kept ∙ sym split

    pub is_word_of : (packed : Packed) → packed.word ≡ code * 2 ^ low + count → IsWordOf coding size number count packed
    is_word_of packed same = grind (arith, common_steps, shr_high, number_below, mod_low, word_below)
