use Rattle.std.proofs.Common.{◌-◌, ◌∷◌, ◌++◌, map, sym, ap, ◌∙◌, subst, arith}
use Rattle.basket_sets.specs.Itemset.{IsRising}
use Rattle.basket_sets.specs.Subsets.{subsets_of_size}
use Rattle.basket_sets.proofs.theory.Rising.{rest_rises}
use Rattle.mine_plain.proofs.SubsetLemmas.{firsts_rise, size_step}
use Rattle.mine_plain.proofs.subset.+subsets_of_size.Goals as goal

pub subsets_of_size-requires : goal.subsets_of_size-requires
subsets_of_size-requires t c =
    let parts = c.in-Some.ensures.cases in
    (omega (arith, parts.1, c.decreases), rest_rises c.in-Some.first.now c.in-Some.others.now (subst IsRising parts.0 c.requires))

pub subsets_of_size-requires-2 : goal.subsets_of_size-requires-2
subsets_of_size-requires-2 t c =
    let parts = c.in-Some.ensures.cases in
    (omega (arith, parts.1, c.decreases), rest_rises c.in-Some.first.now c.in-Some.others.now (subst IsRising parts.0 c.requires))

pub each_with_first-requires : goal.each_with_first-requires
each_with_first-requires t c =
    let parts = c.in-Some.ensures.cases in
    firsts_rise (c.args.size - 1) c.in-Some.first.now c.args.items.now c.in-Some.others.now c.deref.result.now c.requires parts.0
    (c.deref.ensures.value ∙ c.in_ok-subsets_of_size.ensures)

pub returns : goal.returns
returns t c =
    let parts = c.in-Some.ensures.cases in
    let first = c.in-Some.first.now in
    let others = c.in-Some.others.now in
    let with' = c.in_ok-sets.ensures ∙ ap (map (λ set. first ∷ set)) (c.deref.ensures.value ∙ c.in_ok-subsets_of_size.ensures) in
    c.in_ok-append.ensures.items ∙ ap (λ l. l ++ c.in_ok-subsets_of_size-2.field-0.items) with'
    ∙ ap (λ l. map (λ set. first ∷ set) (subsets_of_size (c.args.size - 1) others) ++ l) c.in_ok-subsets_of_size-2.ensures
    ∙ sym (size_step c.args.size first c.args.items.now others parts.0 (omega (arith, c.if-size-eq0.false)))
