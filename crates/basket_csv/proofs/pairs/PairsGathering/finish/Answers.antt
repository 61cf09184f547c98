use Rattle.std.proofs.Common.{Ok, false, refl, sym, ap, ◌∙◌, subst}
use Rattle.std.specs.List.{flat_map}
use Rattle.std.proofs.lemmas.Result.{err_from_is_err_and}
use Rattle.basket_read.specs.Fimi.{basket_of_numbers}
use Rattle.basket_csv.specs.Csv.{baskets_of_pairs, names_of_pairs, gather, pairs_of, with_names}
use Rattle.basket_read.specs.GatheredBaskets.{HasGathered}
use Rattle.basket_csv.specs.Pairs.{numbers_of}
use Rattle.basket_csv.proofs.PairLemmas.{all_baskets, names_of_pairs_are}
use Rattle.basket_csv.proofs.pairs.PairsGathering.finish.Goals as goal

pub returns-in_err-baskets-clause-said : goal.returns-in_err-baskets-clause-said
returns-in_err-baskets-clause-said c = λ reading known names rows are h.
    let pairs = pairs_of rows in
    let baskets = baskets_of_pairs known pairs in
    let all = names_of_pairs known pairs in
    let is = names_of_pairs_are known names rows are in
    let same = ap (flat_map (λ group. basket_of_numbers group.items 1)) c.deref.ensures.value ∙ all_baskets (λ group. group.items) c.args.self.groups.items all (gather pairs) (h.groups ∙ ap (λ ns. numbers_of ns (gather pairs)) is) in
    let has = subst (HasGathered c.in_ok-gathered_from.field-0 false) same c.in_ok-gathered_from.ensures.baskets in
    let p = err_from_is_err_and c.from_residual-in_err-baskets.result c.from_residual-in_err-baskets.ensures.1 in
    rw (p.1, p.2) (λ other. ap (λ l. with_names l all) (c.in_err-baskets.ensures.baskets false baskets has other))

pub returns-clause-said : goal.returns-clause-said
returns-clause-said c = λ reading known names rows are h.
    let pairs = pairs_of rows in
    let baskets = baskets_of_pairs known pairs in
    let all = names_of_pairs known pairs in
    let is = names_of_pairs_are known names rows are in
    let same = ap (flat_map (λ group. basket_of_numbers group.items 1)) c.deref.ensures.value ∙ all_baskets (λ group. group.items) c.args.self.groups.items all (gather pairs) (h.groups ∙ ap (λ ns. numbers_of ns (gather pairs)) is) in
    let has = subst (HasGathered c.in_ok-gathered_from.field-0 false) same c.in_ok-gathered_from.ensures.baskets in
    let (found, light, gathered) = c.in_ok-baskets.ensures.baskets false baskets has in
    ap (λ l. with_names l all) light ∙ ap (λ bs. Ok (bs, all)) (sym (gathered.2 refl)) ∙ ap (λ ns. Ok (c.in_ok-baskets.baskets.rest, ns)) (sym is)
