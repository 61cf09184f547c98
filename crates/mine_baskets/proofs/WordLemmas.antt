-- Words with weights.
use Rattle.std.proofs.Common.{◌||◌, ◌^◌, eqb, ◌≡◌, ℕ, ◌+◌, ◌-◌, ◌<◌, ◌≤◌, Bool, List, [], ◌∷◌, ◌++◌, length, take, get_or, set, cond, refl, sym, ap, ◌∙◌, subst, inl, inr, arith}
use Rattle.std.proofs.lemmas.Grind.{common_steps}
use Rattle.std.specs.Prelude.{All, bit_or}
use Rattle.std.specs.List.{fold, range_with_len, sum_by}
use Rattle.std.specs.List.Sorted.{IsPermutation}
use Rattle.std.proofs.lemmas.Nat.Bits.{bit_at-zero}
use Rattle.std.proofs.lemmas.List.{get_or-map, length-map}
use Rattle.std.proofs.lemmas.List.Sorted.{IsPermutation-map}
use Rattle.std.proofs.lemmas.List.Sums.{sum_by-append, sum_by-cons, sum_by-set}
use Rattle.basket_sets.specs.declared.weighted.Weighted.{Weighted}
use Rattle.basket_sets.specs.Counts.{AllBelow}
use Rattle.basket_sets.specs.Database.{MOST_WEIGHT}
use Rattle.basket_sets.specs.Itemset.{IsRising, contains, has}
use Rattle.basket_sets.proofs.theory.Members.{Member, Member-filter, Member-from_filter}
use Rattle.basket_sets.proofs.theory.Rising.{Member-from_has, has-from_Member, same_rising}
use Rattle.basket_sets.proofs.theory.Ranges.{Member-into_range, Member-range, filtered_range_rises}
use Rattle.basket_sets.proofs.theory.Tests.{cond_sum, or_false}
use Rattle.mine_baskets.proofs.MergedLemmas.{other_weights}
use Rattle.mine_baskets.specs.declared.words.Word.{Word}
use Rattle.mine_baskets.specs.ListBaskets.{AreRankBaskets, HaveSameWeights, IsRankBasket, weight_where}
use Rattle.mine_baskets.specs.Words.{AreInOrder, EndsBy, has_rank, rank_bits, ranks_in, word_basket, word_baskets}
use Rattle.mine_baskets.proofs.theory.Weights.{word_sum}
use Rattle.mine_baskets.proofs.theory.Bits.{has_either, one_rank}
use Rattle.mine_baskets.specs.declared.words.TheConstants.{WORD_RANKS}

module _ (test : List ℕ → Bool) where
  abbrev weigh : Weighted → ℕ
  weigh receipt = cond (test receipt.basket) receipt.weight 0

  -- more weight at a word is as good as an equal word
  pub heavier_word : (count : ℕ) (words : List Word) (i : ℕ) (d word : Word) → i < length words → (get_or words i d).bits ≡ word.bits
      → weight_where test (word_baskets count (words ++ word ∷ []))
      ≡ weight_where test (word_baskets count (set words i (record { bits = (get_or words i d).bits; weight = (get_or words i d).weight + word.weight })))
  heavier_word count words i d word here same = grind (arith, common_steps, sum_by-append, sum_by-cons, sum_by-set, cond_sum, word_sum)

-- words in another order have the same weights
pub moved_words : (count : ℕ) (words moved : List Word) → IsPermutation words moved → HaveSameWeights (word_baskets count words) (word_baskets count moved)
moved_words count words moved permutation = other_weights (word_baskets count words) (word_baskets count moved) (IsPermutation-map (word_basket count) words moved permutation)

-- the baskets of words are baskets of ranks
pub words_ranked : (count : ℕ) (words : List Word) → All (λ word. 1 ≤ word.weight) words → sum_by (λ word. word.weight) words ≤ MOST_WEIGHT
    → AreRankBaskets (record { ranks = count; baskets = word_baskets count words })
words_ranked count words some light = record {
  each = λ k d here.
      let inside : k < length words = omega (arith, here, length-map words (word_basket count)) in
      let bits = (get_or words k none).bits in
      subst (IsRankBasket count) (sym (get_or-map (word_basket count) words k none d inside)) (record {
        rises = filtered_range_rises (has_rank bits) 0 count;
        below = λ rank h.
            let m = Member-filter (has_rank bits) rank (range_with_len 0 count) (Member-from_has (ranks_in count bits) rank h) in
            let r = Member-range 0 count rank m.0 in
            let high = r.1 in
            omega arith;
        weighs = some k none inside;
      });
  light = subst (λ n. n ≤ MOST_WEIGHT) (sym (word_sum (weigh (λ basket. contains basket [])) count words)) light;
}
  where
    none : Word
    none = record { bits = 0; weight = 0 }

-- and words are so many and so heavy as their baskets are
module _ (count : ℕ) (words : List Word) (are : AreRankBaskets (record { ranks = count; baskets = word_baskets count words })) where
  pub some_words : All (λ (word : Word). 1 ≤ word.weight) words
  some_words i d here =
      let is = are.each i (word_basket count d) (omega (arith, here, length-map words (word_basket count))) in
      let same = ap (λ (p : Weighted). p.weight) (get_or-map (word_basket count) words i d (word_basket count d) here) in
      omega (arith, is.weighs, same)

  pub light_words : sum_by (λ (word : Word). word.weight) words ≤ MOST_WEIGHT
  light_words = subst (λ n. n ≤ MOST_WEIGHT) (word_sum (weigh (λ basket. contains basket [])) count words) are.light

-- one word more of a list
pub next_word : (count : ℕ) (words : List Word) (i : ℕ) (d : Word) → i < length words
    → word_baskets count (take i words) ++ word_basket count (get_or words i d) ∷ [] ≡ word_baskets count (take (i + 1) words)
next_word count words i d here = grind (arith, common_steps)

-- ---- words in order

pub heavier_order : (words : List Word) (i : ℕ) (d new : Word) → i < length words → new.bits ≡ (get_or words i d).bits → AreInOrder words → AreInOrder (set words i new)
heavier_order words i d new here same order k e low = grind (arith, common_steps)

pub pushed_order : (words : List Word) (word : Word) → AreInOrder words → ((last : Word) → 0 < length words → (get_or words (length words - 1) last).bits < word.bits) → AreInOrder (words ++ word ∷ [])
pushed_order words word order above k e low = grind (arith, common_steps)

pub pushed_end : (words : List Word) (word : Word) → EndsBy word.bits (words ++ word ∷ [])
pushed_end words word e some = grind (arith, common_steps)

-- ---- the bits of ranks

or_assoc : (a b c : Bool) → ((a || b) || c) ≡ (a || (b || c))
or_assoc h1 h2 h3 = grind (arith, common_steps)

bits_have : (basket : List ℕ) (bits rank : ℕ) → AllBelow WORD_RANKS basket → rank < WORD_RANKS → has_rank (fold (λ bits rank. bit_or bits (2 ^ (63 - rank))) bits basket) rank ≡ (has_rank bits rank || has basket rank)
bits_have [] bits rank below within = sym (or_false (has_rank bits rank))
bits_have (first ∷ basket) bits rank below within =
    let low = below first (has-from_Member (first ∷ basket) first (inl refl)) in
    let rest : AllBelow WORD_RANKS basket = λ other h. below other (has-from_Member (first ∷ basket) other (inr (Member-from_has basket other h))) in
    bits_have basket (bit_or bits (2 ^ (63 - first))) rank rest within
    ∙ ap (λ b. b || has basket rank) (has_either bits (2 ^ (63 - first)) rank ∙ ap (λ b. has_rank bits rank || b) (one_rank first rank low within))
    ∙ or_assoc (has_rank bits rank) (eqb first rank) (has basket rank)

-- they are the bits of these ranks
pub rank_bits_are : (count : ℕ) (basket : List ℕ) → count ≤ WORD_RANKS → IsRising basket → AllBelow count basket → ranks_in count (rank_bits basket) ≡ basket
rank_bits_are count basket few rises below = same_rising (ranks_in count bits) basket (filtered_range_rises (has_rank bits) 0 count) rises into back
  where
    bits : ℕ
    bits = rank_bits basket

    have : (rank : ℕ) → rank < count → has_rank bits rank ≡ has basket rank
    have rank here =
        bits_have basket 0 rank (λ other h. let b = below other h in omega arith) (omega arith)
        ∙ ap (λ b. b || has basket rank) (ap (λ n. eqb n 1) (bit_at-zero (63 - rank)))

    into : (rank : ℕ) → Member rank (ranks_in count bits) → Member rank basket
    into rank m =
        let p = Member-filter (has_rank bits) rank (range_with_len 0 count) m in
        let r = Member-range 0 count rank p.0 in
        let high = r.1 in
        Member-from_has basket rank (sym (have rank (omega arith)) ∙ p.1)

    back : (rank : ℕ) → Member rank basket → Member rank (ranks_in count bits)
    back rank m =
        let h = has-from_Member basket rank m in
        let here = below rank h in
        Member-from_filter (has_rank bits) rank (range_with_len 0 count) (Member-into_range 0 count rank (omega arith) (omega arith)) (have rank here ∙ h)
