use Rattle.std.proofs.Common.{◌≡◌, ℕ, ◌+◌, ◌-◌, ◌*◌, ◌/◌, ◌%◌, ◌^◌, ◌<◌, ap, ◌∙◌, arith, mod-eq_of_lt}
use Rattle.std.proofs.lemmas.Grind.{common_steps}
use Rattle.std.proofs.lemmas.Nat.{shl-shr, shr_le, shr_split}
use Rattle.basket_lists.specs.Known.{longer_number}
use Rattle.basket_lists.specs.Packed.{Coding}
use Rattle.basket_lists.proofs.known.KnownItems.with_digit.Goals as goal

-- nothing is lost where a number is shifted that fits after all shifts
module _ (bits number index last : ℕ) (room : longer_number bits number index last < 2 ^ 121) where
  abbrev high : ℕ
  high = number / 2 ^ last * 2 ^ bits

  second : (high + index) * 2 ^ last < 2 ^ 128
  second = omega (arith, room)

  first : high < 2 ^ 128
  first = omega (arith, second, shl-shr (high + index) last, shr_le ((high + index) * 2 ^ last) last)

  kept : (high % 2 ^ 128 + index) * 2 ^ last % 2 ^ 128 ≡ (high + index) * 2 ^ last
  kept = ap (λ n. (n + index) * 2 ^ last % 2 ^ 128) (mod-eq_of_lt first) ∙ mod-eq_of_lt second

  -- what is left of the number without its first digits
  rest : number < 2 ^ 128 → number - number / 2 ^ last * 2 ^ last % 2 ^ 128 ≡ number % 2 ^ last
  rest small = grind (arith, common_steps, shr_split)

pub returns : goal.returns
returns c =
    let number = c.args.number in
    let last = c.args.last_bits in
    let bits = c.args.self.now.item_bits in
    ap (λ b. (number / 2 ^ last * 2 ^ b % 2 ^ 128 + c.args.index) * 2 ^ last % 2 ^ 128 + (number - number / 2 ^ last * 2 ^ last % 2 ^ 128)) (ap (λ (k : Coding). k.item_bits) c.self.view_is)
    ∙ ap (λ n. n + (number - number / 2 ^ last * 2 ^ last % 2 ^ 128)) (kept bits number c.args.index last c.requires.room)
    ∙ ap (λ n. (number / 2 ^ last * 2 ^ bits + c.args.index) * 2 ^ last + n) (rest bits number c.args.index last c.requires.room c.ranges.number.fits)
