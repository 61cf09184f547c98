-- The ranks of bits, from the highest bit on.
use Rattle.std.proofs.Common.{◌≡◌, ℕ, ◌+◌, ◌-◌, ◌*◌, ◌^◌, ◌<◌, ◌≤◌, [], ◌∷◌, eqb, sym, ap, ◌∙◌, inl, inr, arith, suc}
use Rattle.std.proofs.lemmas.Grind.{common_steps}
use Rattle.std.specs.Int.{bit_at}
use Rattle.std.specs.List.{range_with_len}
use Rattle.std.proofs.Math.Nat.{pow-suc}
use Rattle.std.proofs.lemmas.Bool.{cases_eq, cases_lt, true≢false}
use Rattle.std.proofs.lemmas.Nat.Bits.{bit_at-zero, bit_at_above, bit_at_cat_high, bit_at_cat_low}
use Rattle.basket_sets.proofs.theory.Members.{Member, Member-filter, Member-from_filter}
use Rattle.basket_sets.proofs.theory.Rising.{cons_rises, nil_rises, same_rising}
use Rattle.basket_sets.proofs.theory.Ranges.{Member-into_range, Member-range, filtered_range_rises}
use Rattle.mine_baskets.specs.Words.{has_rank, ranks_in}

-- no bits have no ranks
pub no_ranks : (count : ℕ) → ranks_in count 0 ≡ []
no_ranks count = grind (arith, common_steps, same_rising, filtered_range_rises, nil_rises, true≢false, Member-filter, bit_at-zero)

-- bits of which the highest is at a receipt
module _ (bits bit : ℕ) (low : 2 ^ bit ≤ bits) (high : bits < 2 * 2 ^ bit) where
  parts : bits ≡ 1 * 2 ^ bit + (bits - 2 ^ bit)
  parts = omega arith

  has_first : bit_at bits bit ≡ 1
  has_first = ap (λ n. bit_at n bit) parts ∙ bit_at_cat_high 1 bit (bits - 2 ^ bit) bit (omega arith) (omega arith) ∙ ap (bit_at 1) (let none : bit - bit ≡ 0 = omega arith in none)

  same_below : (i : ℕ) → i < bit → bit_at bits i ≡ bit_at (bits - 2 ^ bit) i
  same_below i less = ap (λ n. bit_at n i) parts ∙ bit_at_cat_low 1 bit (bits - 2 ^ bit) i less

  none_above : (i : ℕ) → bit < i → bit_at bits i ≡ 0
  none_above i more = bit_at_above bits (suc bit) i (omega (arith, pow-suc 2 bit)) (omega arith)

  none_left : (i : ℕ) → bit ≤ i → bit_at (bits - 2 ^ bit) i ≡ 0
  none_left i more = bit_at_above (bits - 2 ^ bit) bit i (omega arith) more

  -- the rank of the highest bit is the first one, and the others are those of the other bits
  pub first_rank : (count : ℕ) → count ≤ 64 → bit ≤ 63 → 63 - bit < count → ranks_in count bits ≡ (63 - bit) ∷ ranks_in count (bits - 2 ^ bit)
  first_rank count few small inside = same_rising (ranks_in count bits) ((63 - bit) ∷ ranks_in count left) (filtered_range_rises (has_rank bits) 0 count)
      (cons_rises (63 - bit) (ranks_in count left) later (filtered_range_rises (has_rank left) 0 count)) into back
    where
      left : ℕ
      left = bits - 2 ^ bit

      within : (rank : ℕ) (b : ℕ) → Member rank (ranks_in count b) → rank < count
      within rank b m = let r = Member-range 0 count rank (Member-filter (has_rank b) rank (range_with_len 0 count) m).0 in let top = r.1 in omega arith

      later : (rank : ℕ) → Member rank (ranks_in count left) → 63 - bit < rank
      later rank m = elim (cases_lt (63 - bit) rank) [
        | inl less ↦ less
        | inr more ↦
            (let has = (Member-filter (has_rank left) rank (range_with_len 0 count) m).1 in
            absurd (true≢false (sym has ∙ ap (λ n. eqb n 1) (none_left (63 - rank) (omega arith)))))
      ]

      into : (rank : ℕ) → Member rank (ranks_in count bits) → Member rank ((63 - bit) ∷ ranks_in count left)
      into rank m = let here = within rank bits m in let has = (Member-filter (has_rank bits) rank (range_with_len 0 count) m).1 in elim (cases_lt rank (63 - bit)) [
        | inl less ↦ absurd (true≢false (sym has ∙ ap (λ n. eqb n 1) (none_above (63 - rank) (omega arith))))
        | inr more ↦ elim (cases_eq (63 - bit) rank) [
          | inl same ↦ inl same
          | inr differ ↦
              inr (Member-from_filter (has_rank left) rank (range_with_len 0 count) (Member-into_range 0 count rank (omega arith) (omega arith))
              (ap (λ n. eqb n 1) (sym (same_below (63 - rank) (omega arith))) ∙ has))
        ]
      ]

      back : (rank : ℕ) → Member rank ((63 - bit) ∷ ranks_in count left) → Member rank (ranks_in count bits)
      back rank (inl same) =
          Member-from_filter (has_rank bits) rank (range_with_len 0 count) (Member-into_range 0 count rank (omega arith) (omega arith))
          (ap (λ n. eqb n 1) (let at : 63 - rank ≡ bit = omega arith in ap (bit_at bits) at ∙ has_first))
      back rank (inr m) =
          let here = within rank left m in
          let after = later rank m in
          let has = (Member-filter (has_rank left) rank (range_with_len 0 count) m).1 in
          Member-from_filter (has_rank bits) rank (range_with_len 0 count) (Member-into_range 0 count rank (omega arith) (omega arith))
          (ap (λ n. eqb n 1) (same_below (63 - rank) (omega arith)) ∙ has)

  -- where its rank is no longer below a number, there are none
  pub no_first_rank : (count : ℕ) → bit ≤ 63 → count ≤ 63 - bit → ranks_in count bits ≡ []
  no_first_rank count small past = grind (arith, common_steps, same_rising, filtered_range_rises, nil_rises, Member-filter, Member-range, true≢false, none_above)
