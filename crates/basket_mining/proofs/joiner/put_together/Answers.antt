use Rattle.std.proofs.Common.{◌++◌, List, map, sym, ap, ◌∙◌, append-nil, arith}
use Rattle.std.specs.List.{flat_map}
use Rattle.std.specs.Vec.Iter.{into_iter_items}
use Rattle.std.proofs.lemmas.List.{nil_from_length}
use Rattle.std.proofs.lemmas.List.Folds.{flat_map-map}
use Rattle.std.proofs.lemmas.Result.{IfOk-weaker}
use Rattle.mine_supports.specs.Extensions.{Group}
use Rattle.basket_sets.specs.declared.counted.Counted.{Counted}
use Rattle.basket_mining.proofs.joiner.put_together.Goals as goal

pub returns-clause-level : goal.returns-clause-level
returns-clause-level c =
    let levels = c.loop-level.levels.items in
    let none = nil_from_length (into_iter_items c.loop-level.level-iterator) (omega (arith, c.in-None.ensures.steps.0, c.loop-level.level-iterator.rest.ok)) in
    let all = sym (append-nil levels) ∙ ap (λ l. levels ++ map (λ (value : List Group × List Counted). value.0) l) (sym none) ∙ c.loop-level.invariant.levels in
    IfOk-weaker c.of_parts.result _ _
    (λ level is. is ∙ ap (flat_map (λ (level : List Group). level)) all ∙ flat_map-map (λ (level : List Group). level) (λ (value : List Group × List Counted). value.0) c.args.values.items) c.of_parts.ensures
