-- Words of bits: their ranks, and what they weigh.
use Rattle.std.proofs.Common.{◌≡◌, ℕ, ◌+◌, ◌-◌, ◌*◌, ◌%◌, ◌^◌, ◌<◌, ◌≤◌, eqb, ltb, Bool, true, false, ◌&&◌, List, [], ◌∷◌, ◌++◌, length, take, get_or, map, cond, refl, sym, ap, ◌∙◌, subst, inl, inr, arith, add-zero, zero, suc}
use Rattle.std.proofs.lemmas.Grind.{common_steps}
use Rattle.std.specs.List.{filter, flat_map, list_all, range_with_len, sum_by}
use mir.Val.{bool_byte}
use Rattle.std.specs.Prelude.{bit_or}
use Rattle.std.proofs.lemmas.Bool.{and_from, cases_Bool, true≢false}
use Rattle.std.proofs.lemmas.Bool.Decides.{nat_tests}
use Rattle.std.proofs.lemmas.Nat.{one_shl}
use Rattle.std.proofs.lemmas.Nat.Bits.{bit_at-zero}
use Rattle.std.proofs.lemmas.List.{append-nil, append_assoc, get_or_default, map-append, take_more}
use Rattle.std.proofs.lemmas.List.Sums.{sum_by_push}
use Rattle.basket_ranks.specs.Codes.{decoded, decoded_basket}
use Rattle.basket_ranks.proofs.theory.Coding.{from_decoded, into_decoded}
use Rattle.basket_sets.specs.declared.weighted.Weighted.{Weighted}
use Rattle.basket_sets.specs.Counts.{AllBelow}
use Rattle.basket_sets.specs.Database.{weighted}
use Rattle.basket_sets.specs.Itemset.{contains, has}
use Rattle.basket_sets.specs.Support.{support_of}
use Rattle.basket_sets.proofs.theory.Members.{Member, Member-filter, Member-from_filter, Contains-from_Member}
use Rattle.basket_sets.proofs.theory.Merging.{sum_by-same}
use Rattle.basket_sets.proofs.theory.Rising.{Member-from_has, contains_each, has-from_Member, has_each, rising-rises, same_rising, same_test}
use Rattle.basket_sets.proofs.theory.Tests.{Member-at, all_of, each_of}
use Rattle.basket_sets.proofs.theory.Ranges.{Member-into_range, Member-range, filter_rises, filtered_range_rises}
use Rattle.mine_baskets.specs.declared.words.TheConstants.{WORD_RANKS}
use Rattle.mine_baskets.specs.declared.words.Word.{Word}
use Rattle.mine_classes.specs.Conditional.{kept_basket}
use Rattle.mine_baskets.specs.ListBaskets.{HaveSameWeights, weight_where}
use Rattle.mine_baskets.specs.Words.{has_rank, ranks_in, word_basket, word_baskets}
use Rattle.mine_baskets.proofs.theory.Bits.{has_either, one_rank}
use Rattle.mine_baskets.proofs.theory.Weights.{changed_weight, word_sum}
use Rattle.mine_conditional.specs.WordPaths.{pair_weight, rank_weight}
use Rattle.mine_conditional.specs.Paths.{is_branch}

-- ---- the ranks of a word

pub has_in : (count bits rank : ℕ) → rank < count → has (ranks_in count bits) rank ≡ has_rank bits rank
has_in count bits rank low = same_test (has (ranks_in count bits) rank) (has_rank bits rank)
    (λ h. (Member-filter (has_rank bits) rank (range_with_len 0 count) (Member-from_has (ranks_in count bits) rank h)).1)
    (λ h. has-from_Member (ranks_in count bits) rank (Member-from_filter (has_rank bits) rank (range_with_len 0 count) (Member-into_range 0 count rank (omega arith) (omega arith)) h))

pub in_below : (count bits rank : ℕ) → Member rank (ranks_in count bits) → rank < count
in_below count bits rank m = let high = (Member-range 0 count rank (Member-filter (has_rank bits) rank (range_with_len 0 count) m).0).1 in omega arith

-- ---- what words weigh

two_ranks : (a b : Bool) (weight : ℕ) → cond (a && (b && true)) weight 0 ≡ cond b (cond a weight 0) 0
two_ranks h1 h2 h3 = grind (arith, common_steps)

pub pair_support : (count rank other : ℕ) (words : List Word) → rank < count → other < rank
    → support_of (word_baskets count words) (other ∷ rank ∷ []) ≡ sum_by (pair_weight rank other) words
pair_support count rank other words low less = grind (arith, common_steps, word_sum, sum_by-same, two_ranks, has_in)

pub rank_weight_le : (rank : ℕ) (word : Word) → rank_weight rank word ≤ word.weight
rank_weight_le rank word = grind (arith, common_steps)

pub pair_weight_le : (rank other : ℕ) (word : Word) → pair_weight rank other word ≤ word.weight
pair_weight_le rank other word = grind (arith, common_steps)

abbrev pub none : Word
none = record { bits = 0; weight = 0 }

-- ---- words with all ranks below their own

abbrev pub fills : ℕ → ℕ → Bool
fills count bits = list_all (λ rank. contains (ranks_in count bits) (range_with_len 0 rank)) (ranks_in count bits)

-- each rank comes with the one below it, up to a number
abbrev pub IsFront : ℕ → ℕ → Type 0
IsFront count bits = (rank : ℕ) → 1 ≤ rank → rank < count → has_rank bits rank ≡ true → has_rank bits (rank - 1) ≡ true

down : (count bits : ℕ) → IsFront count bits → (n rank : ℕ) → rank + n < count → has_rank bits (rank + n) ≡ true → has_rank bits rank ≡ true
down count bits front zero rank low h = subst (λ r. has_rank bits r ≡ true) (add-zero rank) h
down count bits front (suc n) rank low h =
    let next : rank + suc n - 1 ≡ rank + n = omega arith in
    down count bits front n rank (omega arith) (subst (λ r. has_rank bits r ≡ true) next (front (rank + suc n) (omega arith) low h))

pub front_fills : (count bits : ℕ) → IsFront count bits → fills count bits ≡ true
front_fills count bits front = all_of (λ rank. contains (ranks_in count bits) (range_with_len 0 rank)) (ranks_in count bits) (λ rank m.
    let own = Member-filter (has_rank bits) rank (range_with_len 0 count) m in
    let low = in_below count bits rank m in
    contains_each (ranks_in count bits) (range_with_len 0 rank) (λ other n.
    let less = (Member-range 0 rank other n).1 in
    let whole : other + (rank - other) ≡ rank = omega arith in
    Member-from_has (ranks_in count bits) other (has_in count bits other (omega arith) ∙ down count bits front (rank - other) other (omega arith) (subst (λ r. has_rank bits r ≡ true) (sym whole) own.1))))

pub gap_fails : (count bits rank : ℕ) → 1 ≤ rank → rank < count → has_rank bits rank ≡ true → has_rank bits (rank - 1) ≡ false → fills count bits ≡ false
gap_fails count bits rank some low h gap = elim (cases_Bool (fills count bits)) [
  | inl whole ↦
      (let all = each_of (λ r. contains (ranks_in count bits) (range_with_len 0 r)) (ranks_in count bits) whole rank (Member-from_has (ranks_in count bits) rank (has_in count bits rank low ∙ h)) in
      let m = has_each (ranks_in count bits) (range_with_len 0 rank) all (rank - 1) (Member-into_range 0 rank (rank - 1) (omega arith) (omega arith)) in
      absurd (true≢false (sym (Member-filter (has_rank bits) (rank - 1) (range_with_len 0 count) m).1 ∙ gap)))
  | inr e ↦ e
]

pub all_fill : (count : ℕ) (words : List Word) → ((k : ℕ) → k < length words → fills count (get_or words k none).bits ≡ true) → is_branch (word_baskets count words) ≡ true
all_fill count [] each = refl
all_fill count (word ∷ words) each =
    and_from (fills count word.bits) (is_branch (word_baskets count words)) (each 0 (omega arith)) (all_fill count words (λ k here. each (suc k) (omega arith)))

and_false : (b : Bool) → (b && false) ≡ false
and_false h1 = grind (arith, common_steps)

pub one_fails : (count : ℕ) (words : List Word) (k : ℕ) → k < length words → fills count (get_or words k none).bits ≡ false → is_branch (word_baskets count words) ≡ false
one_fails count [] k here e = absurd (omega arith)
one_fails count (word ∷ words) zero here e = ap (λ b. b && is_branch (word_baskets count words)) e
one_fails count (word ∷ words) (suc k) here e = ap (λ b. fills count word.bits && b) (one_fails count words k (omega arith) e) ∙ and_false (fills count word.bits)

-- ---- words kept to some ranks

-- receipts decoded are the word's ranks that are kept
pub kept_decoded : (kept : List ℕ) (count bits new : ℕ) → AllBelow count kept
    → ((receipt : ℕ) → receipt < length kept → has_rank new receipt ≡ has_rank bits (get_or kept receipt 0))
    → filter (has kept) (ranks_in count bits) ≡ decoded kept (ranks_in (length kept) new)
kept_decoded kept count bits new low are = same_rising (filter (has kept) (ranks_in count bits)) (decoded kept (ranks_in (length kept) new))
    (filter_rises (has kept) (ranks_in count bits) (filtered_range_rises (has_rank bits) 0 count)) (rising-rises (map (λ receipt. get_or kept receipt 0) (ranks_in (length kept) new))) into back
  where
    into : (rank : ℕ) → Member rank (filter (has kept) (ranks_in count bits)) → Member rank (decoded kept (ranks_in (length kept) new))
    into rank m =
        let f = Member-filter (has kept) rank (ranks_in count bits) m in
        let own = (Member-filter (has_rank bits) rank (range_with_len 0 count) f.0).1 in
        let c = Contains-from_Member rank kept (Member-from_has kept rank f.1) in
        let at : get_or kept c.0 0 ≡ rank = at_of c.0 rank c.1 c.2 in
        subst (λ x. Member x (decoded kept (ranks_in (length kept) new))) at
        (into_decoded kept (ranks_in (length kept) new) c.0 (Member-from_has (ranks_in (length kept) new) c.0 (has_in (length kept) new c.0 c.1 ∙ are c.0 c.1 ∙ ap (has_rank bits) at ∙ own)))
      where
        at_of : (k r : ℕ) → k < length kept → get_or kept k r ≡ r → get_or kept k 0 ≡ r
        at_of k r here e = get_or_default kept k 0 r here ∙ e

    back : (rank : ℕ) → Member rank (decoded kept (ranks_in (length kept) new)) → Member rank (filter (has kept) (ranks_in count bits))
    back rank m =
        let d = from_decoded kept (ranks_in (length kept) new) rank m in
        let here = in_below (length kept) new d.0 d.1 in
        let own = (Member-filter (has_rank new) d.0 (range_with_len 0 (length kept)) d.1).1 in
        let there = has-from_Member kept rank (subst (λ x. Member x kept) d.2 (Member-at kept d.0 here)) in
        Member-from_filter (has kept) rank (ranks_in count bits)
        (Member-from_has (ranks_in count bits) rank (has_in count bits rank (low rank there) ∙ ap (has_rank bits) (sym d.2) ∙ sym (are d.0 here) ∙ own)) there

flat_map_push : (f : Weighted → List Weighted) (xs : List Weighted) (y : Weighted) → flat_map f (xs ++ y ∷ []) ≡ flat_map f xs ++ f y
flat_map_push f [] y = append-nil (f y)
flat_map_push f (x ∷ xs) y = ap (λ l. f x ++ l) (flat_map_push f xs y) ∙ sym (append_assoc (f x) (flat_map f xs) (f y))

module _ (kept : List ℕ) (count rank : ℕ) (words : List Word) (i : ℕ) where
  abbrev pub below_words : List Word → List Weighted
  below_words list = flat_map (kept_basket (has kept) rank) (word_baskets count list)

  abbrev word_at : Word
  word_at = get_or words i none

  next_below : i < length words → rank < count → (b : Bool) → has_rank word_at.bits rank ≡ b
      → below_words (take (i + 1) words) ≡ below_words (take i words) ++ cond b (weighted (filter (has kept) (ranks_in count word_at.bits)) word_at.weight ∷ []) []
  next_below here low b h = grind (arith, common_steps, take_more, map-append, flat_map_push, has_in)

  pub below_without : i < length words → rank < count → has_rank word_at.bits rank ≡ false → (others : List Weighted)
      → HaveSameWeights (below_words (take i words)) others → HaveSameWeights (below_words (take (i + 1) words)) others
  below_without here low h others so_far test = grind (arith, common_steps, next_below here low false h)

  pub below_with : i < length words → rank < count → has_rank word_at.bits rank ≡ true → AllBelow count kept → (old new : List Word) (bits : ℕ)
      → ((receipt : ℕ) → receipt < length kept → has_rank bits receipt ≡ has_rank word_at.bits (get_or kept receipt 0))
      → HaveSameWeights (below_words (take i words)) (map (decoded_basket kept) (word_baskets (length kept) old))
      → HaveSameWeights (word_baskets (length kept) (old ++ record { bits = bits; weight = word_at.weight } ∷ [])) (word_baskets (length kept) new)
      → HaveSameWeights (below_words (take (i + 1) words)) (map (decoded_basket kept) (word_baskets (length kept) new))
  below_with here low h within old new bits are so_far added test =
      let n = length kept in
      let own = filter (has kept) (ranks_in count word_at.bits) in
      let word : Word = record { bits = bits; weight = word_at.weight } in
      let inner = λ (basket : List ℕ). test (decoded kept basket) in
      let weigh = λ (t : List ℕ → Bool) (receipt : Weighted). cond (t receipt.basket) receipt.weight 0 in
      ap (weight_where test) (next_below here low true h)
      ∙ sum_by_push (weigh test) (below_words (take i words)) (weighted own word_at.weight)
      ∙ ap (λ m. m + cond (test own) word_at.weight 0) (so_far test ∙ changed_weight test (decoded kept) (word_baskets n old))
      ∙ ap (λ l. weight_where inner (word_baskets n old) + cond (test l) word_at.weight 0) (kept_decoded kept count word_at.bits bits within are)
      ∙ sym (ap (weight_where inner) (map-append (word_basket n) old (word ∷ [])) ∙ sum_by_push (weigh inner) (word_baskets n old) (word_basket n word))
      ∙ added inner
      ∙ sym (changed_weight test (decoded kept) (word_baskets n new))
