use Rattle.std.proofs.Common.{◌≡◌, ◌<◌, ◌+◌, ◌++◌, ◌∷◌, [], ℕ, List, filter, length, get_or, map, take, subst, sym, ap, ◌∙◌, arith}
use Rattle.std.proofs.lemmas.Grind.{common_steps}
use Rattle.std.proofs.lemmas.List.{get_or-map, length-map, map-append, take_all, take_more}
use Rattle.basket_sets.specs.Itemset.{IsRising}
use Rattle.basket_sets.proofs.theory.Rising.{nil_rises}
use Rattle.mine_supports.specs.Extensions.{extend, has_items, sets_of}
use Rattle.mine_apriori.specs.declared.pairs.Pair.{Pair}
use Rattle.mine_supports.proofs.theory.Extensions.{item_more, sets_with}
use Rattle.mine_supports.proofs.theory.Grouped.{AreBefore, all_grouped, are_before, begun_as, item_begun, item_rises, next_begun, none_begun, one_rises}
use Rattle.mine_apriori.proofs.PairLemmas.{parts}
use Rattle.mine_apriori.proofs.pairs.pair_sets.Goals as goal
use Rattle.mine_apriori.proofs.pairs.pair_sets.Goals.{then-first-lesser+in_ok-found, else-first-lesser}

pub loop-pair-init : goal.loop-pair-init
loop-pair-init c = grind (arith, common_steps, begun_as, none_begun, nil_rises)

-- the sets so far and one more
more_sets : (sets : List (List ℕ)) (i : ℕ) (before ends : List (List ℕ)) (set : List ℕ) → i < length sets → set ≡ get_or sets i set → before ++ ends ≡ take i sets → (before ++ ends) ++ set ∷ [] ≡ take (i + 1) sets
more_sets sets i before ends set here is are = (λ k. are k ++ is k ∷ []) ∙ sym (take_more sets i set here)

pub returns-clause-sets : goal.returns-clause-sets
returns-clause-sets c = grind (arith, common_steps, sets_with, take_all, length-map)

pub returns-clause-grouped : goal.returns-clause-grouped
returns-clause-grouped c = grind (arith, common_steps, all_grouped)

pub loop-pair-preserved : goal.loop-pair-preserved
loop-pair-preserved c =
    let pairs = c.args.pairs.now in
    let all = map (λ (pair : Pair). pair.ranks) pairs in
    let i = c.loop-pair.pair-index in
    let here = c.loop-pair-test.true in
    let inv = c.loop-pair.invariant in
    let found = c.loop-pair.found in
    let lesser = c.loop-pair.lesser in
    let greater = c.loop-pair.greater.items in
    let pair : Pair = get_or pairs i (record { ranks = []; count = 0 }) in
    let x : ℕ = get_or pair.ranks 0 0 in
    let y : ℕ = get_or pair.ranks 1 0 in
    let set = x ∷ y ∷ [] in
    let within : i < length all = omega (arith, here, length-map pairs (λ (pair : Pair). pair.ranks)) in
    let at = get_or-map (λ (pair : Pair). pair.ranks) pairs i (record { ranks = []; count = 0 }) set here in
    let is : set ≡ get_or all i set = sym (at ∙ parts pair.ranks (sym (ap length at) ∙ c.requires.two i set within)) in
    let before = are_before all i set (sets_of found) (extend (lesser ∷ []) greater) ((2, omega arith, c.requires.two), c.requires.in_order) within is inv.sets in
    let more = more_sets all i (sets_of found) (extend (lesser ∷ []) greater) set within is inv.sets in
    let counts = c.in_ok-push-2.ensures.items ∙ ap (λ l. l ++ pair.count ∷ []) inv.counts
    ∙ sym (ap (map (λ (pair : Pair). pair.count)) (take_more pairs i (record { ranks = []; count = 0 }) here) ∙ map-append (λ (pair : Pair). pair.count) (take i pairs) (pair ∷ [])) in
    elim c.if-first-lesser.branch [
      | then-first-lesser+in_ok-found w ↦
          (let one = c.in_ok-push.ensures.items ∙ ap (λ l. l ++ y ∷ []) (ap (λ v. v.items) w.greater-is ∙ w.clear.ensures.items) in
          let flushed = w.found-is ∙ w.in_ok-found.ensures ∙ ap (λ l. found ++ filter has_items (record { prefix = lesser ∷ []; items = l } ∷ [])) w.deref.ensures.value in
          record {
            sets = (λ k. sets_of (flushed k) ++ extend (w.lesser-is k ∷ []) (one k)) ∙ ap (λ l. l ++ set ∷ []) (sets_with found (lesser ∷ []) greater) ∙ more;
            begun = begun_as (found ++ filter has_items (record { prefix = lesser ∷ []; items = greater } ∷ [])) _ (x ∷ []) _ (y ∷ []) _ flushed (ap (λ r. r ∷ []) w.lesser-is) one
                (next_begun found (lesser ∷ []) greater (x ∷ []) y before inv.begun (λ same. w.if-first-lesser.true (sym (ap (λ l. get_or l 0 0) same))));
            rises = subst IsRising (sym one) (one_rises y);
            counts = counts;
          })
      | else-first-lesser w ↦
          (let one = c.in_ok-push.ensures.items ∙ ap (λ v. v.items ++ y ∷ []) w.greater-is in
          let same : x ≡ lesser = w.if-first-lesser.false in
          record {
            sets = (λ k. sets_of (w.found-is k) ++ extend (w.lesser-is k ∷ []) (one k)) ∙ item_more (sets_of found) (lesser ∷ []) greater y
                ∙ ap (λ r. (sets_of found ++ extend (lesser ∷ []) greater) ++ (r ∷ y ∷ []) ∷ []) (sym same) ∙ more;
            begun = begun_as found _ (lesser ∷ []) _ (greater ++ y ∷ []) _ w.found-is (ap (λ r. r ∷ []) w.lesser-is) one (item_begun found (lesser ∷ []) greater y inv.begun);
            rises = subst IsRising (sym one) (item_rises (lesser ∷ []) greater y (subst (λ r. AreBefore (extend (lesser ∷ []) greater) (r ∷ y ∷ [])) same before) inv.rises);
            counts = counts;
          })
    ]
