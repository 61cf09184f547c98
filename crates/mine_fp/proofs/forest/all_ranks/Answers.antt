use Rattle.std.proofs.Common.{◌++◌, ◌∷◌, [], ℕ, sym, ◌∙◌, arith}
use Rattle.std.proofs.lemmas.List.FromFn.{map-range_with_len_more}
use Rattle.basket_sets.specs.Support.{support_of}
use Rattle.mine_fp.proofs.forest.all_ranks.Goals as goal

pub loop-rank-preserved : goal.loop-rank-preserved
loop-rank-preserved c =
    let one : ℕ → ℕ × ℕ = λ rank. (rank, support_of c.args.runs.now.baskets (rank ∷ [])) in
    c.in_ok-push.ensures.items ∙ (λ i. c.loop-rank.invariant i ++ (c.loop-rank.rank, c.support.ensures i) ∷ [])
    ∙ sym (map-range_with_len_more one 0 c.loop-rank.rank c.loop-rank.rank (omega arith))
