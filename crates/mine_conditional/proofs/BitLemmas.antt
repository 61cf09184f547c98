-- The receipts of a basket's ranks as bits.
use Rattle.std.proofs.Common.{◌≡◌, ℕ, ◌-◌, ◌<◌, ◌≤◌, ◌⊎◌, true, ◌||◌, List, [], ◌∷◌, Option, Some, None, length, map, get_or, eqb, refl, sym, ap, ◌∙◌, inl, inr, arith}
use Rattle.std.proofs.lemmas.Grind.{common_steps}
use Rattle.std.specs.Prelude.{All, bit_or}
use Rattle.std.specs.List.{AllByRecursion, fold, range_with_len}
use Rattle.std.proofs.lemmas.Bool.{cases_eq, or_cases, true≢false}
use Rattle.std.proofs.lemmas.List.Elements.{recursion_from_All}
use Rattle.std.proofs.lemmas.Nat.Bits.{bit_at-pow_other, bit_at-pow_same, bit_at-zero}
use Rattle.basket_ranks.specs.Codes.{coded_basket, rank_of}
use Rattle.basket_sets.specs.declared.weighted.Weighted.{Weighted}
use Rattle.basket_sets.specs.Database.{weighted}
use Rattle.basket_sets.specs.Itemset.{IsRising}
use Rattle.basket_sets.proofs.theory.Members.{Member, Member-filter, Member-from_filter}
use Rattle.basket_sets.proofs.theory.Rising.{same_rising}
use Rattle.basket_sets.proofs.theory.Ranges.{Member-into_range, Member-range, filtered_range_rises}
use Rattle.basket_sets.proofs.theory.Tests.{or_true}
use Rattle.mine_baskets.specs.declared.words.TheConstants.{WORD_RANKS}
use Rattle.mine_baskets.specs.ListBaskets.{IsRankBasket}
use Rattle.mine_baskets.specs.Words.{has_rank, ranks_in, word_baskets}
use Rattle.mine_conditional.specs.BitTable.{AreBits, option_bit, number_bit, table_bits, table_word}
use Rattle.mine_conditional.proofs.NumberLemmas.{all_coded, from_numbers, into_numbers, placed, numbers_in, numbers_rise, stands, table_at}
use Rattle.mine_baskets.proofs.theory.Bits.{has_either}

-- ---- the bit of a receipt

-- the bits of the receipts of those ranks of a basket that have one
abbrev bits_in : List ℕ → List ℕ → ℕ
bits_in kept basket = fold (λ bits rank. bit_or bits (number_bit kept rank)) 0 basket

module _ (kept : List ℕ) (up : IsRising kept) (few : length kept ≤ WORD_RANKS) where
  place_has : (rank receipt : ℕ) → rank_of kept rank ≡ Some receipt → has_rank (number_bit kept rank) receipt ≡ true
  place_has rank receipt is = ap (λ o. has_rank (option_bit o) receipt) is ∙ ap (λ n. eqb n 1) (bit_at-pow_same (63 - receipt))

  has_at : (rank receipt : ℕ) → receipt < WORD_RANKS → has_rank (number_bit kept rank) receipt ≡ true → rank_of kept rank ≡ Some receipt
  has_at rank receipt within h = at (rank_of kept rank) refl h
    where
      at : (o : Option ℕ) → rank_of kept rank ≡ o → has_rank (option_bit o) receipt ≡ true → rank_of kept rank ≡ Some receipt
      at None e h = absurd (true≢false (sym h ∙ ap (λ n. eqb n 1) (bit_at-zero (63 - receipt))))
      at (Some k) e h = elim (cases_eq (63 - receipt) (63 - k)) [
        | inl same ↦ (let inside = (stands kept up rank k e).0 in let is : k ≡ receipt = omega arith in e ∙ ap Some is)
        | inr differ ↦ absurd (true≢false (sym h ∙ ap (λ n. eqb n 1) (bit_at-pow_other (63 - k) (63 - receipt) differ)))
      ]

  -- ---- the bits of a basket

  abbrev with_bit : ℕ → ℕ → ℕ
  with_bit bits rank = bit_or bits (number_bit kept rank)

  from_bits : (basket : List ℕ) (bits receipt : ℕ) → receipt < WORD_RANKS → has_rank (fold with_bit bits basket) receipt ≡ true
      → (has_rank bits receipt ≡ true) ⊎ ((rank : ℕ) × Member rank basket × (rank_of kept rank ≡ Some receipt))
  from_bits [] bits receipt within h = inl h
  from_bits (first ∷ basket) bits receipt within h = elim (from_bits basket (with_bit bits first) receipt within h) [
    | inl e ↦ elim (or_cases (has_rank bits receipt) (has_rank (number_bit kept first) receipt) (sym (has_either bits (number_bit kept first) receipt) ∙ e)) [
      | inl old ↦ inl old
      | inr new ↦ inr (first, inl refl, has_at first receipt within new)
    ]
    | inr r ↦ inr (r.0, inr r.1, r.2)
  ]

  bits_stay : (basket : List ℕ) (bits receipt : ℕ) → has_rank bits receipt ≡ true → has_rank (fold with_bit bits basket) receipt ≡ true
  bits_stay [] bits receipt h = h
  bits_stay (first ∷ basket) bits receipt h =
      bits_stay basket (with_bit bits first) receipt (has_either bits (number_bit kept first) receipt ∙ ap (λ b. b || has_rank (number_bit kept first) receipt) h)

  into_bits : (basket : List ℕ) (bits rank receipt : ℕ) → Member rank basket → rank_of kept rank ≡ Some receipt → has_rank (fold with_bit bits basket) receipt ≡ true
  into_bits [] bits rank receipt m is = absurd m
  into_bits (first ∷ basket) bits rank receipt (inl same) is = grind (arith, common_steps, bits_stay, has_either, place_has, or_true)
  into_bits (first ∷ basket) bits rank receipt (inr m) is = into_bits basket (with_bit bits first) rank receipt m is

  -- they are those of its receipts
  bits_are : (basket : List ℕ) → IsRising basket → ranks_in (length kept) (bits_in kept basket) ≡ numbers_in kept basket
  bits_are basket rises = same_rising (ranks_in count bits) (numbers_in kept basket) (filtered_range_rises (has_rank bits) 0 count) (numbers_rise kept up basket rises) into back
    where
      count : ℕ
      count = length kept

      bits : ℕ
      bits = bits_in kept basket

      into : (receipt : ℕ) → Member receipt (ranks_in count bits) → Member receipt (numbers_in kept basket)
      into receipt m =
          let p = Member-filter (has_rank bits) receipt (range_with_len 0 count) m in
          let r = Member-range 0 count receipt p.0 in
          let high = r.1 in
          elim (from_bits basket 0 receipt (omega arith) p.1) [
            | inl none ↦ absurd (true≢false (sym none ∙ ap (λ n. eqb n 1) (bit_at-zero (63 - receipt))))
            | inr s ↦ into_numbers kept up basket s.0 receipt s.1 s.2
          ]

      back : (receipt : ℕ) → Member receipt (numbers_in kept basket) → Member receipt (ranks_in count bits)
      back receipt m =
          let r = from_numbers kept up basket receipt m in
          let inside = (stands kept up r.0 receipt r.2).0 in
          Member-from_filter (has_rank bits) receipt (range_with_len 0 count) (Member-into_range 0 count receipt (omega arith) (omega arith)) (into_bits basket 0 r.0 receipt r.1 r.2)

-- ---- a table of bits

-- they are those of the numbers
table_bits_are : (kept of basket : List ℕ) → IsRising kept → AreBits kept of → table_bits of basket ≡ bits_in kept basket
table_bits_are kept of basket up are = go basket 0
  where
    go : (ranks : List ℕ) (bits : ℕ) → fold (λ bits rank. bit_or bits (get_or of rank 0)) bits ranks ≡ fold (λ bits rank. bit_or bits (number_bit kept rank)) bits ranks
    go [] bits = refl
    go (first ∷ ranks) bits =
        go ranks (bit_or bits (get_or of first 0))
        ∙ ap (λ n. fold (λ bits rank. bit_or bits (number_bit kept rank)) (bit_or bits n) ranks) (table_at option_bit kept up of first are)

words_each : (kept of : List ℕ) (count : ℕ) (baskets : List Weighted) → IsRising kept → length kept ≤ WORD_RANKS → AreBits kept of → AllByRecursion (IsRankBasket count) baskets
    → word_baskets (length kept) (map (table_word of) baskets) ≡ map (placed kept) baskets
words_each kept of count [] up few are all = refl
words_each kept of count (receipt ∷ baskets) up few are all =
    ap (λ l. weighted l receipt.weight ∷ word_baskets (length kept) (map (table_word of) baskets))
    (ap (ranks_in (length kept)) (table_bits_are kept of receipt.basket up are) ∙ bits_are kept up few receipt.basket all.0.rises)
    ∙ ap (λ rest. placed kept receipt ∷ rest) (words_each kept of count baskets up few are all.1)

-- the words by the table are the baskets coded by the list
pub table_words_coded : (kept of : List ℕ) (count : ℕ) (baskets : List Weighted) → IsRising kept → length kept ≤ WORD_RANKS → AreBits kept of → All (IsRankBasket count) baskets
    → word_baskets (length kept) (map (table_word of) baskets) ≡ map (coded_basket kept) baskets
table_words_coded kept of count baskets up few are all =
    words_each kept of count baskets up few are (recursion_from_All (IsRankBasket count) baskets all) ∙ all_coded kept up count baskets all
