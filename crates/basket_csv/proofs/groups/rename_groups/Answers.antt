use Rattle.std.proofs.Common.{◌∙◌, ap, get_or, length, map, sym, subst}
use Rattle.std.proofs.lemmas.List.{length-set, take_at}
use Rattle.basket_sets.specs.Itemset.{AllBelow}
use Rattle.basket_csv.proofs.PairLemmas.{group_more, group_there}
use Rattle.basket_csv.proofs.groups.rename_groups.Goals as goal

pub rename-requires : goal.rename-requires
rename-requires c =
    let i = c.loop-index.index in
    let d = c.index-groups-index.result in
    let there = group_there (λ group. group.items) (map (λ number. get_or c.args.names.now number 0)) c.args.groups.now c.loop-index.groups i d c.loop-index-test.true c.loop-index.invariant.long c.loop-index.invariant.renamed in
    subst (AllBelow (length c.args.names.now)) (sym (c.as_mut_slice.ensures.value ∙ there)) (c.requires i d c.loop-index-test.true)

pub loop-index-preserved : goal.loop-index-preserved
loop-index-preserved c =
    let i = c.loop-index.index in
    let d = c.index-groups-index.result in
    let there = group_there (λ group. group.items) (map (λ number. get_or c.args.names.now number 0)) c.args.groups.now c.loop-index.groups i d c.loop-index-test.true c.loop-index.invariant.long c.loop-index.invariant.renamed in
    let back = take_at c.rename.new.numbers _ _ (c.rename.auto.numbers ∙ ap length c.as_mut_slice.ensures.value) in
    record {
      long = simp length-set c.loop-index.invariant.long;
      renamed = group_more (λ group. group.items) (map (λ number. get_or c.args.names.now number 0)) c.args.groups.now c.loop-index.groups i d _ c.loop-index-test.true c.loop-index.invariant.renamed
          (back ∙ c.rename.ensures ∙ ap (map (λ number. get_or c.args.names.now number 0)) (c.as_mut_slice.ensures.value ∙ there));
    }
