use Rattle.std.proofs.Common.{◌∷◌, [], get_or, refl, take, subst, ap, ◌∙◌, arith}
use Rattle.std.specs.List.{sum_by}
use Rattle.std.proofs.lemmas.List.{take_more}
use Rattle.std.proofs.lemmas.List.Sums.{sum_by-append, sum_by-cons}
use Rattle.mine_baskets.specs.declared.words.Word.{Word}
use Rattle.mine_baskets.specs.ListBaskets.{HaveSameWeights}
use Rattle.mine_baskets.specs.Words.{word_basket, word_baskets}
use Rattle.mine_baskets.proofs.WordLemmas.{next_word}
use Rattle.mine_baskets.proofs.words.merged.Goals as goal
use Rattle.mine_baskets.proofs.theory.Weights.{word_more}

abbrev none : Word
none = record { bits = 0; weight = 0 }

pub loop-word-preserved : goal.loop-word-preserved
loop-word-preserved c =
    let words = c.args.words.now in
    let i = c.loop-word.word-index in
    let here = c.loop-word-test.true in
    let word = get_or words i none in
    let weight = λ (w : Word). w.weight in
    let new = c.add.new.words.items in
    record {
      some = c.in_ok-add.ensures.some;
      light = (let all = ap (sum_by weight) (take_more words i none here) ∙ sum_by-append weight (take i words) (word ∷ []) in
          let one = sum_by-cons weight word [] in
          omega (arith, all, one, c.in_ok-add.ensures.light, c.loop-word.invariant.light));
      order = c.in_ok-add.ensures.order c.loop-word.invariant.order (c.loop-word.invariant.end i (omega arith) here);
      end = λ k low high last some.
          let now = c.in_ok-add.ensures.end last some in
          let next = c.requires.sorted i k none (omega arith) high in
          omega (arith, now, next);
      weights = λ count. subst (λ l. HaveSameWeights l (word_baskets count new)) (next_word count words i none here)
          (word_more count (word_baskets count (take i words)) (word_basket count word) c.loop-word.merged.items new word refl (c.loop-word.invariant.weights count) (c.in_ok-add.ensures.weights count));
    }
