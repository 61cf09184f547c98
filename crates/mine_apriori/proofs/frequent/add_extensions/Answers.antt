use Rattle.std.proofs.Common.{◌≡◌, ◌∷◌, ◌++◌, [], ℕ, List, true, false, append-nil, get_or, length, map, sym, ap, ◌∙◌, arith}
use Rattle.basket_ranks.specs.Codes.{decoded_set}
use Rattle.basket_ranks.proofs.theory.Decoding.{ranks_below}
use Rattle.basket_sets.specs.declared.counted.Counted.{Counted}
use Rattle.basket_sets.specs.Frequent.{counted, is_frequent}
use Rattle.basket_sets.specs.Itemset.{has, rising}
use Rattle.basket_sets.specs.Minimum.{meets}
use Rattle.basket_sets.specs.Support.{support_of}
use Rattle.mine_supports.proofs.theory.Frequent.{count_read, extended_rises, found_more, kept_more}
use Rattle.mine_apriori.proofs.JoinLemmas.{with_last}
use Rattle.mine_apriori.proofs.frequent.add_extensions.Goals as goal
use Rattle.mine_apriori.proofs.frequent.add_extensions.Goals.{After-met, then-met+in_ok-ranks+in_ok-push_renamed+in_ok-push+in-Heap-1, then-met+in_ok-ranks+in_ok-push_renamed+in_ok-push+in-Inline-1, else-met}

-- the test is that of the set
tested : (c : After-met) → is_frequent c.args.coded.now.baskets c.args.coded.now.minimum (c.args.prefix.now ++ get_or c.args.items.now c.loop-index.index 0 ∷ []) ≡ c.met.result
tested c =
    let coding = c.args.coded.now in
    sym (c.met.ensures ∙ (λ i. meets (c.minimum-minimum.ensures i) (count_read (support_of coding.baskets) c.args.prefix.now c.args.items.now c.args.counts.now c.loop-index.index c.requires.counts c.loop-index-test.true i) (c.total-total.ensures i)))

pub push_renamed-requires : goal.push_renamed-requires
push_renamed-requires c = λ item h.
    let coding = c.args.coded.now in
    let set = c.args.prefix.now ++ get_or c.args.items.now c.loop-index.index 0 ∷ [] in
    let up = extended_rises c.args.prefix.now c.args.items.now c.loop-index.index c.requires.rising c.loop-index-test.true in
    let is = c.in_ok-ranks.ensures.ok ∙ with_last c.args.prefix.now (get_or c.args.items.now c.loop-index.index 0) up in
    let passes = tested (goal.at.push_renamed-requires c).After-met ∙ c.if-met.true in
    let below = ranks_below coding c.requires.coding set passes item (ap (λ l. has l item) (sym is) ∙ h) in
    omega (arith, below, ap length c.items.ensures)

pub loop-index-preserved : goal.loop-index-preserved
loop-index-preserved c =
    let coding = c.args.coded.now in
    let prefix = c.args.prefix.now in
    let items = c.args.items.now in
    let i = c.loop-index.index in
    let here = c.loop-index-test.true in
    let set = prefix ++ get_or items i 0 ∷ [] in
    let passes = is_frequent coding.baskets coding.minimum in
    let decode : List ℕ → Counted = λ set. decoded_set coding.items (counted coding.baskets set) in
    let up = extended_rises prefix items i c.requires.rising here in
    let is = tested (goal.at.loop-index-preserved c).After-met in
    let count = count_read (support_of coding.baskets) prefix items c.args.counts.now i c.requires.counts here in
    let inv = c.loop-index.invariant in
    elim c.if-met.branch [
      | then-met+in_ok-ranks+in_ok-push_renamed+in_ok-push+in-Heap-1 w ↦
          (let ranks = w.in_ok-ranks.ensures.ok ∙ with_last prefix (get_or items i 0) up in
          record {
            items = ap (λ v. v.items) w.kept-is ∙ w.in_ok-push.ensures.items ∙ ap (λ l. l ++ get_or items i 0 ∷ []) inv.items ∙ kept_more (λ item. passes (prefix ++ item ∷ [])) items i true here (is ∙ w.if-met.true);
            found = w.found-is ∙ w.in_ok-push_renamed.ensures
                ∙ (λ k. c.loop-index.found ++ record { set = rising (map (λ number. get_or (w.items.ensures k) number 0) (ranks k)); count = count k } ∷ [])
                ∙ found_more decode passes prefix items i true c.args.found.now c.loop-index.found here (is ∙ w.if-met.true) inv.found;
          })
      | then-met+in_ok-ranks+in_ok-push_renamed+in_ok-push+in-Inline-1 w ↦
          (let ranks = w.in_ok-ranks.ensures.ok ∙ with_last prefix (get_or items i 0) up in
          record {
            items = ap (λ v. v.items) w.kept-is ∙ w.in_ok-push.ensures.items ∙ ap (λ l. l ++ get_or items i 0 ∷ []) inv.items ∙ kept_more (λ item. passes (prefix ++ item ∷ [])) items i true here (is ∙ w.if-met.true);
            found = w.found-is ∙ w.in_ok-push_renamed.ensures
                ∙ (λ k. c.loop-index.found ++ record { set = rising (map (λ number. get_or (w.items.ensures k) number 0) (ranks k)); count = count k } ∷ [])
                ∙ found_more decode passes prefix items i true c.args.found.now c.loop-index.found here (is ∙ w.if-met.true) inv.found;
          })
      | else-met w ↦ record {
        items = ap (λ v. v.items) w.kept-is ∙ inv.items ∙ sym (append-nil _) ∙ kept_more (λ item. passes (prefix ++ item ∷ [])) items i false here (is ∙ w.if-met.false);
        found = w.found-is ∙ sym (append-nil c.loop-index.found) ∙ found_more decode passes prefix items i false c.args.found.now c.loop-index.found here (is ∙ w.if-met.false) inv.found;
      }
    ]
