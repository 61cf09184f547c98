use Rattle.std.proofs.Common.{◌≡◌, ℕ, ◌+◌, ◌*◌, ◌^◌, ◌<◌, length, get_or, refl, sym, ap, ◌∙◌, subst, arith}
use Rattle.std.proofs.lemmas.Grind.{common_steps}
use Rattle.basket_lists.specs.declared.packed.Packed.{Packed}
use Rattle.basket_lists.specs.Known.{FitsWord, IsBetween, IsWordOf, longer_number}
use Rattle.basket_lists.specs.Packed.{Coding, IsCoding, IsLonger, IsPacked, code_of, number_of, size_of}
use Rattle.basket_lists.proofs.LongerLemmas.{longer_fits, longer_is, longer_small}
use Rattle.basket_lists.proofs.known.KnownItems.longer.Goals as goal

-- the values that the function has, and what they are
module _ (coding : Coding) (is : IsCoding coding) (packed : Packed) (set : IsPacked coding packed) (item count index size number above bits most : ℕ) (known : index < length coding.items)
    (named : get_or coding.items index 0 ≡ item) (size_is : size ≡ size_of coding (code_of coding packed)) (of_packed : number ≡ number_of coding (code_of coding packed))
    (between : IsBetween coding.item_bits size number index above) (bits_are : bits ≡ coding.item_bits) (most_is : most ≡ coding.most) (room : size < most) where
  is_between : IsBetween coding.item_bits (size_of coding (code_of coding packed)) (number_of coding (code_of coding packed)) index above
  is_between = subst (λ n. IsBetween coding.item_bits (size_of coding (code_of coding packed)) n index above) of_packed (subst (λ s. IsBetween coding.item_bits s number index above) size_is between)

  has_room : size_of coding (code_of coding packed) < coding.most
  has_room = omega (arith, size_is, most_is, room)

  same : longer_number coding.item_bits number index (above * bits) ≡ longer_number coding.item_bits (number_of coding (code_of coding packed)) index (above * coding.item_bits)
  same = ap (λ n. longer_number coding.item_bits n index (above * bits)) of_packed ∙ ap (λ b. longer_number coding.item_bits (number_of coding (code_of coding packed)) index (above * b)) bits_are

  pub is_small : longer_number coding.item_bits number index (above * bits) < 2 ^ 121
  is_small = subst (λ n. n < 2 ^ 121) (sym same) (longer_small coding is packed set index item count above known named is_between has_room)

  module _ (longer : ℕ) (longer_number_is : longer ≡ longer_number coding.item_bits number index (above * bits)) (fits : count < 2 ^ coding.count_bits) where
    pub fits_word : FitsWord coding (size + 1) longer count
    fits_word = grind (arith, common_steps, has_room, same, longer_fits, is_between)

    pub is_longer : (word : Packed) → IsWordOf coding (size + 1) longer count word → IsLonger coding packed item count word
    is_longer word made = longer_is coding is packed set index item count above known named is_between has_room word
        (subst (λ s. IsWordOf coding (s + 1) (longer_number coding.item_bits (number_of coding (code_of coding packed)) index (above * coding.item_bits)) count word) size_is
        (subst (λ n. IsWordOf coding (size + 1) n count word) (longer_number_is ∙ same) made))

pub with_digit-longer-requires-clause-room : goal.with_digit-longer-requires-clause-room
with_digit-longer-requires-clause-room c =
    is_small c.args.self.now (subst IsCoding c.self.view_is c.self.invariant) c.args.packed.now c.requires c.args.item c.args.count c.in_ok-index.field-0 c.code_size-size.result c.number-number.result
    c.in_ok-above.above c.self.inside.item_bits c.self.inside.most c.in_ok-index.ensures.within c.in_ok-index.ensures.is c.code_size-size.ensures
    c.number-number.ensures c.in_ok-above.ensures (ap (λ (k : Coding). k.item_bits) c.self.view_is) (ap (λ (k : Coding). k.most) c.self.view_is) c.if-size-self.false

pub word-requires : goal.word-requires
word-requires c = record {
  fits = fits_word c.args.self.now (subst IsCoding c.self.view_is c.self.invariant) c.args.packed.now c.requires c.args.item c.args.count c.in_ok-index.field-0 c.code_size-size.result
      c.number-number.result c.in_ok-above.above c.self.inside.item_bits c.self.inside.most c.in_ok-index.ensures.within c.in_ok-index.ensures.is
      c.code_size-size.ensures c.number-number.ensures c.in_ok-above.ensures (ap (λ (k : Coding). k.item_bits) c.self.view_is) (ap (λ (k : Coding). k.most) c.self.view_is) c.if-size-self.false
      c.with_digit-longer.result c.with_digit-longer.ensures (c.if-not-has_room.ensures refl);
}

pub returns : goal.returns
returns c =
    is_longer c.args.self.now (subst IsCoding c.self.view_is c.self.invariant) c.args.packed.now c.requires c.args.item c.args.count c.in_ok-index.field-0 c.code_size-size.result c.number-number.result
    c.in_ok-above.above c.self.inside.item_bits c.self.inside.most c.in_ok-index.ensures.within c.in_ok-index.ensures.is c.code_size-size.ensures
    c.number-number.ensures c.in_ok-above.ensures (ap (λ (k : Coding). k.item_bits) c.self.view_is) (ap (λ (k : Coding). k.most) c.self.view_is) c.if-size-self.false c.with_digit-longer.result
    c.with_digit-longer.ensures (c.if-not-has_room.ensures refl) c.word.result c.word.ensures
