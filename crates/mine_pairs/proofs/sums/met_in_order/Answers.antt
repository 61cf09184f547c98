use Rattle.std.proofs.Common.{◌≡◌, ◌<◌, ◌≤◌, ◌++◌, ◌∷◌, [], ℕ, false, cond, get_or, map, sym, ap, ◌∙◌, arith, add-one, zero-add, append-nil}
use Rattle.std.proofs.lemmas.Grind.{common_steps}
use Rattle.std.specs.List.{filter, range_with_len}
use Rattle.std.proofs.lemmas.List.Elements.{filter-append}
use Rattle.mine_pairs.specs.Sums.{is_met}
use Rattle.mine_pairs.proofs.sums.met_in_order.Goals as goal
use Rattle.mine_pairs.proofs.sums.met_in_order.Goals.{then-sum-ge1+then-sum-least+in_ok-push, else-sum-ge1, else-sum-ge1-via-then-sum-ge1+else-sum-least, else-sum-ge1-via-else-sum-ge1}
use Rattle.basket_sets.proofs.theory.Ranges.{range_more}

no_sum : (least sum : ℕ) → sum < 1 → is_met least sum ≡ false
no_sum least sum none = grind (arith, common_steps)

low_sum : (least sum : ℕ) → sum < least → is_met least sum ≡ false
low_sum least sum low = grind (arith, common_steps)

pub loop-rank-preserved : goal.loop-rank-preserved
loop-rank-preserved c =
    let sums = c.args.sums.now in
    let least = c.args.least in
    let rank = c.loop-rank.rank in
    let sum = get_or sums rank 0 in
    let met = λ (r : ℕ). is_met least (get_or sums r 0) in
    let pair : ℕ → ℕ × ℕ = λ r. (r, get_or sums r 0) in
    let so_far = filter met (range_with_len 0 rank) in
    let more = ap (λ n. filter met (range_with_len 0 n)) (add-one rank) ∙ ap (filter met) (range_more 0 rank ∙ ap (λ n. range_with_len 0 rank ++ n ∷ []) (zero-add rank))
    ∙ filter-append met (range_with_len 0 rank) (rank ∷ []) in
    let lost = λ (e : is_met least sum ≡ false). c.loop-rank.invariant ∙ ap (map pair) (sym (more ∙ ap (λ b. so_far ++ cond b (rank ∷ []) []) e ∙ append-nil so_far)) in
    elim c.if-sum-ge1.branch [
      | then-sum-ge1+then-sum-least+in_ok-push w ↦ grind (arith, common_steps)
      | else-sum-ge1 w ↦ ap (λ v. v.items) w.pairs-is ∙ lost (elim w.else-sum-ge1.branch [
        | else-sum-ge1-via-then-sum-ge1+else-sum-least w' ↦ low_sum least sum w'.if-sum-least.false
        | else-sum-ge1-via-else-sum-ge1 w' ↦ no_sum least sum w'.if-sum-ge1.false
      ])
    ]
