use Rattle.std.proofs.Common.{◌<◌, subst, sym}
use Rattle.mine_baskets.specs.ListBaskets.{RankBaskets}
use Rattle.mine_baskets.specs.Span.{baskets_at}
use Rattle.mine_pairs.specs.Runs.{AreRunsOf}
use Rattle.mine_pairs.proofs.theory.Runs.{runs_at}
use Rattle.mine_pairs.proofs.theory.Sums.{paths_light}
use Rattle.mine_pairs.proofs.runs.Runs.of_rank.Goals as goal

pub invariant_of-result : goal.invariant_of-result
invariant_of-result c =
    let inside = c.self.inside in
    let here = subst (λ (v : RankBaskets). c.args.rank < v.ranks) (sym c.self.view_is) c.requires in
    let baskets = baskets_at inside.ranks.items inside.baskets.items in
    let are = runs_at inside.ranks.items c.deref.result.now baskets inside.count inside.of.items c.args.rank c.index.result.now c.deref-2.result.now c.self.invariant.1 here c.index.ensures c.deref-2.ensures.value c.deref.ensures.value in
    record {
      within = are.within;
      ranked = record { each = are.each; light = paths_light baskets c.args.rank (baskets_at c.deref.result.now c.deref-2.result.now) are.weights c.self.invariant.0.light };
    }

pub returns-clause-weights : goal.returns-clause-weights
returns-clause-weights c =
    let inside = c.self.inside in
    let here = subst (λ (v : RankBaskets). c.args.rank < v.ranks) (sym c.self.view_is) c.requires in
    (subst (λ (v : RankBaskets). AreRunsOf c.deref.result.now v.baskets c.args.rank c.deref-2.result.now) c.self.view_is
    (runs_at inside.ranks.items c.deref.result.now (baskets_at inside.ranks.items inside.baskets.items) inside.count inside.of.items c.args.rank c.index.result.now c.deref-2.result.now c.self.invariant.1 here c.index.ensures c.deref-2.ensures.value c.deref.ensures.value)).weights
