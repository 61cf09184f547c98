use Rattle.std.proofs.Common.{◌≡◌, ℕ, ◌<◌, ◌+◌, ◌-◌, ◌*◌, ◌%◌, ◌^◌, refl, ap, ◌∙◌, subst, arith}
use Rattle.basket_lists.specs.Known.{FitsWord}
use Rattle.basket_lists.specs.Packed.{Coding, IsCoding}
use Rattle.basket_lists.proofs.WordLemmas.{is_word_of, word_below, word_is}
use Rattle.basket_lists.proofs.known.KnownItems.word.Goals as goal

-- what is put together
module _ (coding : Coding) (is : IsCoding coding) (size number count : ℕ) (fits : FitsWord coding size number count) (from low more : ℕ) (sized : from ≡ size) (low_is : low ≡ coding.count_bits)
    (more_is : more ≡ count) where
  same : from * 2 ^ 121 % 2 ^ 128 + number * 2 ^ low % 2 ^ 128 + more ≡ (size * 2 ^ (121 - coding.count_bits) + number) * 2 ^ coding.count_bits + count
  same =
      ap (λ n. n * 2 ^ 121 % 2 ^ 128 + number * 2 ^ low % 2 ^ 128 + more) sized ∙ ap (λ k. size * 2 ^ 121 % 2 ^ 128 + number * 2 ^ k % 2 ^ 128 + more) low_is
      ∙ ap (λ m. size * 2 ^ 121 % 2 ^ 128 + number * 2 ^ coding.count_bits % 2 ^ 128 + m) more_is ∙ word_is coding is size number count fits

  all_small : from * 2 ^ 121 % 2 ^ 128 + number * 2 ^ low % 2 ^ 128 + more < 2 ^ 128
  all_small = omega (arith, same, word_below coding is size number count fits)

  first_small : from * 2 ^ 121 % 2 ^ 128 + number * 2 ^ low % 2 ^ 128 < 2 ^ 128
  first_small = omega (arith, all_small)

pub overflow_add-result : goal.overflow_add-result
overflow_add-result c =
    omega (
      arith,
      first_small c.args.self.now (subst IsCoding c.self.view_is c.self.invariant) c.args.size c.args.number c.args.count c.requires.fits c.from.result c.self.inside.count_bits c.args.count c.from.ensures
          (ap (λ (k : Coding). k.count_bits) c.self.view_is) refl,
    )

pub overflow_add-result-2 : goal.overflow_add-result-2
overflow_add-result-2 c =
    omega (
      arith,
      all_small c.args.self.now (subst IsCoding c.self.view_is c.self.invariant) c.args.size c.args.number c.args.count c.requires.fits c.from.result c.self.inside.count_bits c.from-2.result c.from.ensures
          (ap (λ (k : Coding). k.count_bits) c.self.view_is) c.from-2.ensures,
    )

pub returns : goal.returns
returns c =
    let coding = c.args.self.now in
    let is = subst IsCoding c.self.view_is c.self.invariant in
    is_word_of coding is c.args.size c.args.number c.args.count c.requires.fits _
    (same coding is c.args.size c.args.number c.args.count c.requires.fits c.from.result c.self.inside.count_bits c.from-2.result c.from.ensures (ap (λ (k : Coding). k.count_bits) c.self.view_is) c.from-2.ensures)
