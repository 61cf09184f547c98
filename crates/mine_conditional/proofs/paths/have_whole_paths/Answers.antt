use Rattle.std.proofs.Common.{◌≡◌, sym, ◌∙◌, subst, inl, inr, arith}
use Rattle.std.proofs.lemmas.Bool.{cases_Bool, cases_lt, true≢false}
use Rattle.std.proofs.lemmas.List.Elements.{recursion_from_All}
use Rattle.basket_sets.proofs.theory.Members.{at_Member}
use Rattle.mine_baskets.specs.ListBaskets.{IsRankBasket}
use Rattle.mine_conditional.proofs.BranchLemmas.{branch_from_full, full_by_runs, runs_by_full}
use Rattle.mine_conditional.proofs.paths.have_whole_paths.Goals as goal
use Rattle.mine_conditional.proofs.theory.Branches.{IsFullAt, full_from_branch}
use Rattle.mine_conditional.specs.Paths.{is_branch}

pub returns-then-not-are_whole : goal.returns-then-not-are_whole
returns-then-not-are_whole c =
    elim (cases_Bool (is_branch c.args.runs.now.baskets)) [
      | inl one ↦
          (let whole = runs_by_full c.args.runs.now c.loop-rank.rank c.of_rank-paths.result c.of_rank-paths.ensures.count c.of_rank-paths.ensures.weights c.of_rank-paths.ensures.ranked (full_from_branch c.args.runs.now.baskets one c.loop-rank.rank) in
          let is = c.are_whole.ensures ∙ whole in
          absurd (true≢false (sym is ∙ c.if-not-are_whole.true)))
      | inr several ↦ sym several
    ]

pub loop-rank-preserved : goal.loop-rank-preserved
loop-rank-preserved c = λ lower less.
    let rank = c.loop-rank.rank in
    let full = full_by_runs c.args.runs.now rank c.of_rank-paths.result c.of_rank-paths.ensures.count c.of_rank-paths.ensures.weights c.of_rank-paths.ensures.ranked (sym c.are_whole.ensures ∙ c.if-not-are_whole.false) in
    elim (cases_lt lower rank) [
      | inl before ↦ c.loop-rank.invariant lower before
      | inr after ↦ (let same : lower ≡ rank = omega arith in subst (λ r. IsFullAt r c.args.runs.now.baskets) (sym same) full)
    ]

pub returns : goal.returns
returns c =
    let ranks = c.args.runs.now.ranks in
    sym (branch_from_full ranks c.args.runs.now.baskets
    (λ receipt m. (at_Member (IsRankBasket ranks) receipt c.args.runs.now.baskets (recursion_from_All (IsRankBasket ranks) c.args.runs.now.baskets c.requires.each) m).below)
    (λ rank less. c.loop-rank.invariant rank (omega (arith, less, c.loop-rank-test.false, c.ranks-rank-end.ensures, c.loop-rank.auto.rank-end))))
