use Rattle.std.proofs.Common.{ℕ, ◌≤◌, ◌+◌, get_or, length, map, take, sym, subst, ap, ◌∙◌, arith}
use Rattle.std.specs.Prelude.{All}
use Rattle.std.specs.List.{flat_map, sum_by}
use Rattle.std.proofs.lemmas.List.{length-map, take_all}
use Rattle.std.proofs.lemmas.List.Sums.{sum_by_more}
use Rattle.basket_ranks.specs.Codes.{decoded_basket}
use Rattle.basket_sets.specs.Itemset.{has}
use Rattle.mine_baskets.specs.declared.words.Word.{Word}
use Rattle.mine_classes.specs.Conditional.{kept_basket}
use Rattle.mine_baskets.specs.ListBaskets.{HaveSameWeights}
use Rattle.mine_baskets.specs.Words.{word_baskets}
use Rattle.mine_conditional.proofs.ShiftLemmas.{bits_brought}
use Rattle.mine_conditional.proofs.WordPathLemmas.{below_with, below_without, none}
use Rattle.mine_conditional.proofs.word_paths.words_below.Goals as goal
use Rattle.mine_conditional.proofs.word_paths.words_below.Goals.{then-has+in_ok-add, else-has}

pub loop-word-preserved : goal.loop-word-preserved
loop-word-preserved c =
    let kept = map (λ (pair : ℕ × ℕ). pair.0) c.args.pairs.now in
    let rank = c.args.rank in
    let words = c.args.words.now in
    let i = c.loop-word.word-index in
    let here = c.loop-word-test.true in
    let so_far = c.loop-word.invariant in
    let old = c.loop-word.below.items in
    let more = sum_by_more (λ (word : Word). word.weight) words i none here in
    elim c.if-has.branch [
      | then-has+in_ok-add w ↦
          (let now = w.in_ok-add.ensures in
          let items = sym (ap (λ v. v.items) w.below-is) in
          record {
            some = subst (All (λ (word : Word). 1 ≤ word.weight)) items now.some;
            light = subst (λ l. sum_by (λ (word : Word). word.weight) l ≤ sum_by (λ (word : Word). word.weight) (take (i + 1) words)) items (omega (arith, now.light, so_far.light, more));
            weights = λ count low.
                subst (λ l. HaveSameWeights (flat_map (kept_basket (has kept) rank) (word_baskets count (take (i + 1) words))) (map (decoded_basket kept) (word_baskets (length kept) l))) items
                (below_with kept count rank words i here low (sym c.has.ensures ∙ w.if-has.true) (λ other h. let less = c.requires.below other h in omega (arith, less, low))
                old w.add.new.words.items w.shift_all-bits.result
                (bits_brought kept c.in_ok-shifts.shifts.items w.as_slice.result.now (get_or words i none).bits w.shift_all-bits.result c.in_ok-shifts.ensures w.as_slice.ensures (omega (arith, c.requires.few, length-map c.args.pairs.now (λ (pair : ℕ × ℕ). pair.0))) w.shift_all-bits.ensures)
                (so_far.weights count low) (now.weights (length kept)));
          })
      | else-has w ↦
          (let items = sym (ap (λ v. v.items) w.below-is) in
          record {
            some = subst (All (λ (word : Word). 1 ≤ word.weight)) items so_far.some;
            light = subst (λ l. sum_by (λ (word : Word). word.weight) l ≤ sum_by (λ (word : Word). word.weight) (take (i + 1) words)) items (omega (arith, so_far.light, more));
            weights = λ count low.
                subst (λ l. HaveSameWeights (flat_map (kept_basket (has kept) rank) (word_baskets count (take (i + 1) words))) (map (decoded_basket kept) (word_baskets (length kept) l))) items
                (below_without kept count rank words i here low (sym c.has.ensures ∙ w.if-has.false) (map (decoded_basket kept) (word_baskets (length kept) old)) (so_far.weights count low));
          })
    ]

pub returns-clause-weights : goal.returns-clause-weights
returns-clause-weights c = λ count low.
    let kept = map (λ (pair : ℕ × ℕ). pair.0) c.args.pairs.now in
    subst (λ l. HaveSameWeights (flat_map (kept_basket (has kept) c.args.rank) (word_baskets count l)) (map (decoded_basket kept) (word_baskets (length kept) c.loop-word.below.items)))
    (take_all c.loop-word.word-index c.args.words.now c.loop-word-test.false) (c.loop-word.invariant.weights count low)
