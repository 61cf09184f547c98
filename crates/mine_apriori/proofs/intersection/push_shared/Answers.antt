use Rattle.std.proofs.Common.{◌≡◌, ◌+◌, ◌∷◌, ◌++◌, [], ℕ, ◌<◌, Bool, true, false, List, append-nil, append_assoc, cond, filter, get_or, length, take, ap, sym, ◌∙◌, arith}
use Rattle.std.proofs.lemmas.Grind.{common_steps}
use Rattle.std.proofs.lemmas.Bool.{cases_lt}
use Rattle.basket_sets.specs.Itemset.{has}
use Rattle.basket_sets.proofs.theory.Rising.{has_at}
use Rattle.basket_sets.proofs.theory.Tests.{rising_at}
use Rattle.mine_supports.proofs.theory.Frequent.{kept_more}
use Rattle.mine_supports.proofs.theory.UsedItems.{missing}
use Rattle.mine_apriori.proofs.intersection.push_shared.Goals as goal
use Rattle.mine_apriori.proofs.intersection.push_shared.Goals.{Joined-next-others, then-next-others+then-others-next+in_ok-push, else-next-others, else-next-others-via-then-next-others+else-others-next, else-next-others-via-else-next-others}

-- one item more, where it is known whether the others have it
step : (others items shared : List ℕ) (i : ℕ) (b : Bool) → i < length items → has others (get_or items i 0) ≡ b
    → (shared ++ filter (has others) (take i items)) ++ cond b (get_or items i 0 ∷ []) [] ≡ shared ++ filter (has others) (take (i + 1) items)
step others items shared i b here is = append_assoc shared (filter (has others) (take i items)) (cond b (get_or items i 0 ∷ []) []) ∙ ap (λ l. shared ++ l) (kept_more (has others) items i b here is)

-- the others that were passed over are below the item
passed : (c : Joined-next-others) (k : ℕ) → k < c.first_from-next.result → k < length c.args.others.now → get_or c.args.others.now k 0 < get_or c.args.items.now c.loop-item.item-index 0
passed c k less within = grind (arith, common_steps, cases_lt)

pub loop-item-preserved : goal.loop-item-preserved
loop-item-preserved c =
    let items = c.args.items.now in
    let others = c.args.others.now in
    let shared = c.args.shared.now.items in
    let i = c.loop-item.item-index in
    let next = c.first_from-next.result in
    let inv = c.loop-item.invariant in
    let here = c.loop-item-test.true in
    record {
      shared = elim c.if-next-others.branch [
        | then-next-others+then-others-next+in_ok-push w ↦
            ap (λ v. v.items) w.shared-is ∙ w.in_ok-push.ensures.items ∙ ap (λ l. l ++ get_or items i 0 ∷ []) inv.shared
            ∙ step others items shared i true here (ap (has others) (sym w.if-others-next.true) ∙ has_at others next w.if-next-others.true)
        | else-next-others w ↦
            ap (λ v. v.items) w.shared-is ∙ inv.shared ∙ sym (append-nil (shared ++ filter (has others) (take i items)))
            ∙ step others items shared i false here (missing others (get_or items i 0) next c.requires.others_rise (passed c) (λ inside. elim w.else-next-others.branch [
              | else-next-others-via-then-next-others+else-others-next v ↦ (let least = c.first_from-next.ensures.first inside in let differ = v.if-others-next.false in omega (arith, least, differ))
              | else-next-others-via-else-next-others v ↦ absurd (omega (arith, v.if-next-others.false, inside))
            ]))
      ];
      below = λ k less within j from inside. let b = passed c k less within in let r = rising_at items i j c.requires.rises (omega (arith, from)) inside in omega arith;
    }
