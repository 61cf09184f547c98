use Rattle.std.proofs.Common.{◌≡◌, ◌∙◌, ◌+◌, ◌<◌, ℕ, List, [], ap, arith, get_or, length, map, subst, sym}
use Rattle.std.proofs.lemmas.Grind.{common_steps}
use Rattle.std.specs.declared.alloc.Global.{Global}
use Rattle.std.specs.declared.vec.Vec.{Vec}
use Rattle.std.specs.List.{flat_map, range_with_len}
use Rattle.std.proofs.lemmas.List.{get_or-map, length-map}
use Rattle.std.proofs.lemmas.List.Folds.{flat_map-map}
use Rattle.std.proofs.lemmas.Result.{IfOk-weaker}
use Rattle.basket_sets.specs.declared.weighted.Weighted.{Weighted}
use Rattle.mine_baskets.specs.declared.span.Span.{Span}
use Rattle.mine_baskets.specs.Baskets.{baskets_in}
use Rattle.mine_pairs.specs.declared.rank_range.RankRange.{RankRange}
use Rattle.mine_pairs.specs.Runs.{AreRunsOf, HaveRunsFrom, lists_in}
use Rattle.mine_pairs.specs.Triangle.{ranks_in}
use Rattle.mine_pieces.specs.Pieces.{HasEach}
use Rattle.mine_pieces.proofs.theory.Parts.{map_flat}
use Rattle.mine_phases.proofs.RunLemmas.{AreOf, are_at, are_joined, length-are}
use Rattle.mine_phases.proofs.runs.runs_by_ranges.Goals as goal

-- the runs of the ranges, one after another, are those of all ranks
runs_joined : (ranks : List ℕ) (baskets : List Weighted) (count : ℕ) (ranges : List RankRange) (values : List (Vec (Vec Span Global) Global)) (of : Vec (Vec Span Global) Global)
    → flat_map ranks_in ranges ≡ range_with_len 0 count
    → HasEach (λ part lists. (range : RankRange) → get_or ranges part range ≡ range → HaveRunsFrom range.first range.count ranks baskets (lists_in lists.items)) (length ranges) values
    → of.items ≡ flat_map (λ lists. lists.items) values → HaveRunsFrom 0 count ranks baskets (lists_in of.items)
runs_joined ranks baskets count ranges values of are has is =
    let parts : List (List (List Span)) = map (λ (lists : Vec (Vec Span Global) Global). lists_in lists.items) values in
    let flat : lists_in of.items ≡ flat_map (λ lists. lists) parts =
    ap lists_in is ∙ map_flat (λ (list : Vec Span Global). list.items) (λ (lists : Vec (Vec Span Global) Global). lists.items) values
    ∙ sym (flat_map-map (λ (lists : List (List Span)). lists) (λ (lists : Vec (Vec Span Global) Global). lists_in lists.items) values) in
    let list : (part : ℕ) → part < length ranges → get_or parts part [] ≡ lists_in (get_or values part of).items =
    λ part below. get_or-map (λ (lists : Vec (Vec Span Global) Global). lists_in lists.items) values part of [] (omega (arith, below, has.count)) in
    let all : AreOf (AreRunsOf ranks baskets) (range_with_len 0 count) (lists_in of.items) =
    subst (AreOf (AreRunsOf ranks baskets) (range_with_len 0 count)) (sym flat)
    (subst (λ r. AreOf (AreRunsOf ranks baskets) r (flat_map (λ lists. lists) parts)) are
    (are_joined (AreRunsOf ranks baskets) ranges parts (length-map values (λ (lists : Vec (Vec Span Global) Global). lists_in lists.items) ∙ has.count)
    (λ part range below at. (
      ap length (list part below) ∙ (has.each part of below range at).long,
      λ n low. subst (λ l. AreRunsOf ranks baskets (range.first + n) (get_or l n [])) (sym (list part below)) ((has.each part of below range at).are n low),
    )))) in
    grind (arith, common_steps, length-are, are_at)

pub returns : goal.returns
returns g c = λ count are.
    let ranks = c.args.baskets.ranks.now in
    let baskets = baskets_in c.args.baskets in
    IfOk-weaker c.in_a_row.result _ (λ of. HaveRunsFrom 0 count ranks baskets (lists_in of.items))
    (λ of is. runs_joined ranks baskets count c.args.ranges.items c.in_ok-lists.lists.items of are c.in_ok-lists.ensures is) c.in_a_row.ensures
