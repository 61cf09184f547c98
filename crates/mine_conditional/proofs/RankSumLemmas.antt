-- Sums to which the weight of a word is added at its ranks, from the lowest bit on.
use Rattle.std.proofs.Common.{◌≡◌, ℕ, ◌+◌, ◌-◌, ◌/◌, ◌%◌, ◌^◌, ◌<◌, ◌≤◌, List, cond, eqb, get_or, length, set, refl, sym, ap, ◌∙◌, subst, inl, inr, arith}
use Rattle.std.proofs.lemmas.Grind.{common_steps}
use Rattle.std.specs.Prelude.{bit_and}
use Rattle.std.specs.Int.{bit_at}
use Rattle.std.proofs.lemmas.Bool.{cases_eq, cases_lt}
use Rattle.std.proofs.lemmas.List.{get_or-set_other, get_or-set_same, length-set}
use Rattle.std.proofs.lemmas.Nat.{and_le_l, div-add-mod', mod_below, pow_pos, shr_below}
use Rattle.std.proofs.lemmas.Nat.Bits.{bit_at_above, bit_at_cat_high}
use Rattle.mine_baskets.specs.declared.words.Word.{Word}
use Rattle.mine_baskets.proofs.theory.Bits.{without_lowest, without_lowest_other}
use Rattle.mine_conditional.specs.WordPaths.{rank_weight}

-- the weight that is still to come at a rank below a number, where the rest has its bit
abbrev pub rest_weight : ℕ → ℕ → ℕ → ℕ → ℕ
rest_weight count rest weight rank = cond (eqb (bit_at rest (count - 1 - rank)) 1) weight 0

-- with the weight that is still to come, the sums are those with the weight of a word at its ranks below a number
pub record HasSums (count rest : ℕ) (word : Word) (old new : List ℕ) : Type 0 where
  pub small : rest < 2 ^ count
  pub long : length new ≡ length old
  pub sums : (rank : ℕ) → rank < count → get_or new rank 0 + rest_weight count rest word.weight rank ≡ get_or old rank 0 + rank_weight rank word

pub sums_begin : (count : ℕ) (word : Word) (old : List ℕ) → 1 ≤ count → count ≤ 64 → word.bits < 2 ^ 64 → HasSums count (word.bits / 2 ^ (64 - count)) word old old
sums_begin count word old some few fits = record {
  small = shr_below word.bits count (64 - count) (let all : count + (64 - count) ≡ 64 = omega arith in subst (λ n. word.bits < 2 ^ n) (sym all) fits);
  long = refl;
  sums = λ rank low.
      let dropped = 64 - count in
      let at : count - 1 - rank + dropped ≡ 63 - rank = omega arith in
      let back : count - 1 - rank + dropped - dropped ≡ count - 1 - rank = omega arith in
      let here = sym (ap (bit_at (word.bits / 2 ^ dropped)) back)
      ∙ sym (bit_at_cat_high (word.bits / 2 ^ dropped) dropped (word.bits % 2 ^ dropped) (count - 1 - rank + dropped) (mod_below word.bits (2 ^ dropped) (pow_pos dropped)) (omega arith))
      ∙ ap (λ n. bit_at n (count - 1 - rank + dropped)) (div-add-mod' word.bits (2 ^ dropped)) ∙ ap (bit_at word.bits) at in
      ap (λ b. get_or old rank 0 + cond (eqb b 1) word.weight 0) here;
}

module _ (count rest : ℕ) (word : Word) (old new : List ℕ) (few : count ≤ 64) (has : HasSums count rest word old new) where
  pub sums_end : rest ≡ 0 → (rank : ℕ) → rank < count → get_or new rank 0 ≡ get_or old rank 0 + rank_weight rank word
  sums_end none rank low = grind (arith, common_steps)

  module _ (lowest : ℕ) (one : bit_at rest lowest ≡ 1) (zeros : (i : ℕ) → i < lowest → bit_at rest i ≡ 0) where
    -- its rank is below the number
    pub lowest_below : lowest < count
    lowest_below = grind (arith, common_steps, cases_lt, bit_at_above)

    pub sums_next : count ≤ length old → HasSums count (bit_and rest (rest - 1)) word old (set new (count - 1 - lowest) (get_or new (count - 1 - lowest) 0 + word.weight))
    sums_next inside = record {
      small = omega (arith, and_le_l rest (rest - 1), has.small);
      long = length-set new (count - 1 - lowest) (get_or new (count - 1 - lowest) 0 + word.weight) ∙ has.long;
      sums = λ other low.
          let rank = count - 1 - lowest in
          let added = get_or new rank 0 + word.weight in
          elim (cases_eq other rank) [
            | inl same ↦
                (let at : count - 1 - other ≡ lowest = omega (arith, lowest_below, same) in
                let own = ap (λ b. cond (eqb b 1) word.weight 0) (ap (bit_at rest) at ∙ one) in
                let gone = ap (λ b. cond (eqb b 1) word.weight 0) (ap (bit_at (bit_and rest (rest - 1))) at ∙ without_lowest rest lowest one zeros) in
                let now = ap (λ r. get_or (set new rank added) r 0) same ∙ get_or-set_same new rank added 0 (omega (arith, inside, lowest_below, has.long)) in
                let before = ap (λ r. get_or new r 0) same in
                omega (arith, own, gone, now, before, has.sums other low))
            | inr differ ↦ grind (arith, common_steps, without_lowest_other, get_or-set_other)
          ];
    }
