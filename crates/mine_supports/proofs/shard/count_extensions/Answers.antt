use Rattle.std.proofs.Common.{◌≡◌, ap, length, subst, ◌∙◌}
use Rattle.std.specs.Prelude.{replicate}
use Rattle.std.proofs.lemmas.List.{take_at}
use Rattle.mine_supports.specs.Counter.{WithSupports}
use Rattle.mine_supports.proofs.CounterLemmas.{counts_are_supports}
use Rattle.mine_supports.specs.Extensions.{sets_of}
use Rattle.mine_supports.proofs.shard.count_extensions.Goals as goal

pub returns : goal.returns
returns c =
    let sets = sets_of c.args.sets.now in
    let baskets = c.args.baskets.now in
    let old = c.deref_mut.result.now in
    let new = c.add.new.counts in
    let zeros : old ≡ replicate (length sets) 0 = c.deref_mut.ensures.value ∙ c.in_ok-counts.ensures.items_if_clones_equal (λ y e. e) ∙ ap (λ n. replicate n 0) c.len.ensures in
    take_at new _ c.in_ok-counts.counts.len (c.add.auto.counts ∙ c.deref_mut.ensures.len)
    ∙ counts_are_supports sets baskets old new zeros c.add.auto.counts (subst (λ l. WithSupports l baskets old new) c.in_ok-of.ensures c.in_ok-add.ensures)
