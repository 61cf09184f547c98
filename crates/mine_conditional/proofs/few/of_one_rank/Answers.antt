use Rattle.std.proofs.Common.{◌≡◌, ℕ, zero, suc, ◌+◌, ◌^◌, ◌≤◌, ◌<◌, Bool, true, false, List, [], ◌∷◌, ◌++◌, cond, get_or, ltb, refl, subst, sym, ap, ◌∙◌, arith, add-zero, zero-add}
use Rattle.std.proofs.lemmas.Bool.{ltb-false}
use Rattle.std.proofs.lemmas.List.Sums.{sum_by-append, sum_by-cons}
use Rattle.std.proofs.lemmas.List.{map-append}
use Rattle.basket_sets.proofs.theory.Tests.{same_cond}
use Rattle.basket_sets.specs.declared.weighted.Weighted.{Weighted}
use Rattle.mine_baskets.specs.declared.words.Word.{Word}
use Rattle.mine_baskets.specs.ListBaskets.{RankBaskets, weight_where}
use Rattle.mine_baskets.specs.Words.{AreInOrder, ranks_in, word_basket, word_baskets}
use Rattle.mine_conditional.proofs.few.of_one_rank.Goals as goal

module _ (test : List ℕ → Bool) (count : ℕ) where
  abbrev weigh : Weighted → ℕ
  weigh receipt = cond (test receipt.basket) receipt.weight 0

  -- what words weigh with one more, unless it has no weight
  one_more : (words more : List Word) (word : Word) → more ≡ cond (ltb 0 word.weight) (words ++ word ∷ []) words
      → weight_where test (word_baskets count more) ≡ weight_where test (word_baskets count words) + cond (test (ranks_in count word.bits)) word.weight 0
  one_more words more word is = ap (λ l. weight_where test (word_baskets count l)) is ∙ at (ltb 0 word.weight) refl
    where
      at : (b : Bool) → ltb 0 word.weight ≡ b → weight_where test (word_baskets count (cond b (words ++ word ∷ []) words))
          ≡ weight_where test (word_baskets count words) + cond (test (ranks_in count word.bits)) word.weight 0
      at true e =
          ap (weight_where test) (map-append (word_basket count) words (word ∷ [])) ∙ sum_by-append weigh (word_baskets count words) (word_basket count word ∷ [])
          ∙ ap (λ n. weight_where test (word_baskets count words) + n) (sum_by-cons weigh (word_basket count word) [] ∙ add-zero _)
      at false e =
          let light = ltb-false 0 word.weight e in
          let zero_weight : word.weight ≡ 0 = omega (arith, light) in
          sym (ap (λ n. weight_where test (word_baskets count words) + n) (ap (λ w. cond (test (ranks_in count word.bits)) w 0) zero_weight ∙ same_cond (test (ranks_in count word.bits)) 0) ∙ add-zero _)

  -- the word of none and a rank's
  both : (with without : ℕ) → count ≤ 1 → (count ≡ 0 → with ≡ 0)
      → cond (test (ranks_in count 0)) without 0 + cond (test (ranks_in count (2 ^ 63))) with 0 ≡ cond (test (0 ∷ [])) with 0 + cond (test []) without 0
  both with without few none = at count few none
    where
      at : (n : ℕ) → n ≤ 1 → (n ≡ 0 → with ≡ 0)
          → cond (test (ranks_in n 0)) without 0 + cond (test (ranks_in n (2 ^ 63))) with 0 ≡ cond (test (0 ∷ [])) with 0 + cond (test []) without 0
      at zero few none =
          let here = ap (λ w. cond (test []) w 0) (none refl) ∙ same_cond (test []) 0 in
          let there = ap (λ w. cond (test (0 ∷ [])) w 0) (none refl) ∙ same_cond (test (0 ∷ [])) 0 in
          omega (arith, here, there)
      at (suc zero) few none = omega arith
      at (suc (suc n)) few none = absurd (omega (arith, few))

-- the lower word comes first
in_order : (words : List Word) (low high : Word) → low.bits < high.bits → (a b : Bool) → words ≡ [] → AreInOrder (cond b (cond a (words ++ low ∷ []) words ++ high ∷ []) (cond a (words ++ low ∷ []) words))
in_order words low high less a b none = subst (λ l. AreInOrder (cond b (cond a (l ++ low ∷ []) l ++ high ∷ []) (cond a (l ++ low ∷ []) l))) (sym none) (at a b)
  where
    at : (a b : Bool) → AreInOrder (cond b (cond a (low ∷ []) [] ++ high ∷ []) (cond a (low ∷ []) []))
    at true true = λ k d more. first k d more
      where
        first : (k : ℕ) (d : Word) → k + 1 < 2 → (get_or (low ∷ high ∷ []) k d).bits < (get_or (low ∷ high ∷ []) (k + 1) d).bits
        first zero d more = less
        first (suc k) d more = absurd (omega (arith, more))
    at true false = λ k d more. absurd (omega (arith, more))
    at false true = λ k d more. absurd (omega (arith, more))
    at false false = λ k d more. absurd (omega (arith, more))

pub of_ordered-requires-clause-order : goal.of_ordered-requires-clause-order
of_ordered-requires-clause-order c =
    let low : Word = record { bits = 0; weight = c.args.without } in
    let high : Word = record { bits = c.bit_of.result; weight = c.args.with } in
    subst AreInOrder (sym (c.in_ok-push_weighing-2.ensures ∙ ap (λ l. cond (ltb 0 c.args.with) (l ++ high ∷ []) l) c.in_ok-push_weighing.ensures))
    (in_order c.in_ok-words.words.items low high (omega (arith, c.bit_of.ensures)) (ltb 0 c.args.without) (ltb 0 c.args.with) c.in_ok-words.ensures.items)

pub returns-clause-weights : goal.returns-clause-weights
returns-clause-weights c = λ test.
    let count = c.args.count in
    ap (λ (v : RankBaskets). weight_where test v.baskets) c.of_ordered.ensures.baskets
    ∙ one_more test count c.push_weighing.new.words.items c.push_weighing-2.new.words.items (record { bits = c.bit_of.result; weight = c.args.with }) c.in_ok-push_weighing-2.ensures
    ∙ ap (λ n. n + cond (test (ranks_in count c.bit_of.result)) c.args.with 0)
    (one_more test count c.in_ok-words.words.items c.push_weighing.new.words.items (record { bits = 0; weight = c.args.without }) c.in_ok-push_weighing.ensures
    ∙ ap (λ l. weight_where test (word_baskets count l) + cond (test (ranks_in count 0)) c.args.without 0) c.in_ok-words.ensures.items ∙ zero-add _)
    ∙ ap (λ b. cond (test (ranks_in count 0)) c.args.without 0 + cond (test (ranks_in count b)) c.args.with 0) c.bit_of.ensures
    ∙ both test count c.args.with c.args.without c.requires.few c.requires.none
